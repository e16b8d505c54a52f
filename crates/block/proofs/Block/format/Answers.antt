-- `format`: at most 8 affixes, each with a prefix, a suffix and a flag.
use mathlib.Core.Path.{refl}
use Rattle.block.specs.Block.{format_made}
use Rattle.block.proofs.Block.format.Goals as goal

pub returns-then-sizes_right : goal.returns-then-sizes_right
unfolding format_made
returns-then-sizes_right c =
    rw (← c.sizes_right.ensures, c.if-sizes_right.true) c.within.ensures

pub returns : goal.returns
unfolding format_made
returns c = rw (← c.sizes_right.ensures, c.if-sizes_right.false) refl
