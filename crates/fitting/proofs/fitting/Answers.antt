-- `fitting::fitting` meets its contract: what a walk says from the end of the row of groups it says from its start.
-- Assumes nothing.
use Rattle.fitting.proofs.Row.{row-known, row-fitting, row_fitted}
use Rattle.fitting.proofs.fitting.Goals as goal

pub groups_down-down-requires : goal.groups_down-down-requires
groups_down-down-requires c = row-known c.requires

pub walked-requires : goal.walked-requires
walked-requires c = row-fitting c.groups_down-down.ensures c.requires

pub returns : goal.returns
returns c = row_fitted c.groups_down-down.ensures c.walked.ensures
