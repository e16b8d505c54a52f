-- `lay::lay_union` meets its contract: the end of the trial is pushed, by `union-kept`.
-- Assumes nothing.
use Rattle.lay.proofs.Arms.{union-kept}
use Rattle.lay.proofs.lay_union.Goals as goal

pub returns : goal.returns
returns c =
    let start = c.args in
    union-kept start.s start.work.now _ _ _ _ _ _ c.child_of-2.ensures (rw c.child_of.ensures at c.push_trial.ensures)
