-- `bare`: more than one, and every prefix a Nil.
use mathlib.Core.Path.{refl}
use borrow.Author.Tests.{lt-ltb, le-ltb}
use Rattle.block.specs.Affixes.{bare}
use Rattle.block.proofs.affixes.bare.Goals as goal

pub returns-then-before-gt1 : goal.returns-then-before-gt1
unfolding bare
returns-then-before-gt1 c = rw (lt-ltb _ _ c.if-before-gt1.true) c.all_nil.ensures

pub returns-else-before-gt1 : goal.returns-else-before-gt1
unfolding bare
returns-else-before-gt1 c = rw (le-ltb _ _ c.if-before-gt1.false) refl
