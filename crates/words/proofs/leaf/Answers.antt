-- `words::texts::leaf` meets its contract. Assumes nothing.
use Rattle.words.proofs.Chain.{refused, writes}
use mathlib.Core.Path.{refl}
use Rattle.words.proofs.leaf.Goals as goal

pub columns-wide-requires : goal.columns-wide-requires
columns-wide-requires c = tt

pub returns-then-wide-gt65536 : goal.returns-then-wide-gt65536
returns-then-wide-gt65536 c = refused _ _ refl

pub text-requires : goal.text-requires
text-requires c = tt

pub returns : goal.returns
returns c =
    writes c.args.bytes.now c.columns-wide.result c.columns-wide.ensures c.text.ensures
