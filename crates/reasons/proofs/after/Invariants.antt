-- `reasons::after` meets its contract: the loop carries `Walking`, what is read from here gives the reason that was asked for at the start.
-- Assumes nothing.
use Prim.Native.Nat.{◌/◌}
use lib.ListN.{length}
use Rattle.reasons.proofs.Walk.{Walking}
use Rattle.reasons.proofs.after.Given as goal

abbrev pub invariant-loop-next : goal.invariant-loop-next
invariant-loop-next l = Walking l.table l.work l.width (length l.table / 4) l.initial.d l.initial.end.0 l.d l.end.0

abbrev pub decreases-loop-next : goal.decreases-loop-next
decreases-loop-next l = l.d
