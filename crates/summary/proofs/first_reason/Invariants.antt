-- `summary::first_reason` meets its contract: the loop carries `Walking`, what the walk leads to from here is what it led to from the start.
-- Assumes nothing.
use Prim.Native.Nat.{◌/◌}
use lib.ListN.{length}
use Rattle.summary.proofs.Steps.{Walking}
use Rattle.summary.proofs.first_reason.Given as goal

abbrev pub invariant-loop-next : goal.invariant-loop-next
invariant-loop-next l = Walking l.table l.memo l.flat l.width (length l.table / 4) l.initial.down.0 l.initial.col.0 l.down.0 l.col.0

abbrev pub decreases-loop-next : goal.decreases-loop-next
decreases-loop-next l = l.down.0
