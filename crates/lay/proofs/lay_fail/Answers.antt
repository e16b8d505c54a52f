-- `lay::lay_fail` meets its contract: `fail-none` where no trial is found, `fail-some` where one is.
-- Assumes nothing.
use Rattle.lay.proofs.Arms.{fail-none, fail-some}
use Rattle.lay.proofs.lay_fail.Goals as goal

pub returns-in_default : goal.returns-in_default
returns-in_default c = fail-none c.args.s _ c.nearest.ensures c.in_default.is

pub returns : goal.returns
returns c =
    fail-some c.args.s _ c.nearest.ensures _ _ _ _ c.in-Some.is c.due_at.ensures c.saved_at-saved.ensures c.restored.ensures
