-- `fitting::walked` meets its contract: both walks carry `Walking`, what the fit test says from here is what it says from the start.
-- Assumes nothing.
use mathlib.Core.List.{List}
use Prim.Native.Nat.{ℕ}
use Rattle.fitting.proofs.Walk.{ahead, Walking}
use Rattle.fitting.proofs.walked.Given as goal

abbrev pub invariant-down : goal.invariant-down
invariant-down l =
    (x c : ℕ) (w : List ℕ)
    → Walking l.table l.width x l.depth c l.left w l.initial.work (ahead l.initial.work l.initial.node.0 l.mode.0 l.initial.count) l.at l.initial.col.0 l.initial.steps
    → Walking l.table l.width x l.depth c l.left w l.work (ahead l.work l.node.0 l.mode.0 l.count) l.at l.col.0 l.steps

abbrev pub decreases-down : goal.decreases-down
decreases-down l = l.steps

abbrev pub invariant-waiting : goal.invariant-waiting
invariant-waiting l =
    Walking l.table l.width l.initial.node.0 l.depth l.initial.col.0 l.left l.initial.work l.work (ahead l.work l.node.0 l.mode.0 l.count) l.at l.col.0 l.steps

abbrev pub decreases-waiting : goal.decreases-waiting
decreases-waiting l = l.at
