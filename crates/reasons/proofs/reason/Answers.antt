-- `reasons::reason` meets its contract: the walk down the child comes to the reason, or through to what waits.
-- Assumes nothing.
use Rattle.reasons.proofs.Walk.{child-found, child-met, child-through}
use Rattle.reasons.proofs.reason.Goals as goal

pub after-requires : goal.after-requires
after-requires c =
    child-met c.requires _ c.first_reason.ensures _ c.in-Ok.is

pub returns-in-Ok : goal.returns-in-Ok
returns-in-Ok c =
    child-through c.requires _ c.first_reason.ensures _ c.in-Ok.is c.after.result c.after.ensures

pub returns-in-Err : goal.returns-in-Err
returns-in-Err c =
    child-found c.requires _ c.first_reason.ensures _ c.in-Err.is
