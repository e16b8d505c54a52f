-- `separators`: all or none.
use native.Mathlib.Omega.{arith}
use Rattle.build.specs.Solid.{solid}
use Rattle.build.proofs.Counts.separators.Goals as goal

pub returns-then-is_nil : goal.returns-then-is_nil
unfolding solid
returns-then-is_nil c = rw (← c.is_nil.ensures, c.if-is_nil.true) (omega arith)

pub returns : goal.returns
unfolding solid
returns c = rw (← c.is_nil.ensures, c.if-is_nil.false) (omega arith)
