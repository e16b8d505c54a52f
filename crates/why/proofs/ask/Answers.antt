-- `why::ask` meets its contract: the run that the step asks for, and its answer.
-- Assumes nothing.
use Rattle.why.proofs.Asked.{asked-none, asked-past, asked-ended, asked_visiting, asked-due}
use Rattle.why.proofs.ask.Goals as goal

pub returns-then-step-eq0 : goal.returns-then-step-eq0
returns-then-step-eq0 c = asked-none c.requires _ _ c.if-step-eq0.true

pub returns-then-limit-step : goal.returns-then-limit-step
returns-then-limit-step c =
    asked-past c.requires _ _ _ _ _ c.if-limit-step.true c.best-end.ensures c.ended.result c.ended.ensures

pub visit-requires : goal.visit-requires
visit-requires c =
    asked_visiting c.requires _ _ c.if-step-eq0.false c.if-limit-step.false c.run.ensures _ _ c.in-AtLimit.is c.run.auto.work

pub returns-in-Ended : goal.returns-in-Ended
returns-in-Ended c =
    asked-ended c.requires _ _ c.if-step-eq0.false c.if-limit-step.false c.run.ensures _ c.in-Ended.is c.ended_at_visit.result c.ended_at_visit.ensures

pub returns-in-AtLimit : goal.returns-in-AtLimit
returns-in-AtLimit c =
    asked-due c.requires _ _ c.if-step-eq0.false c.if-limit-step.false c.run.ensures _ _ c.in-AtLimit.is c.visit.result c.visit.ensures
