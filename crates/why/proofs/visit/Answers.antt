-- `why::visit` meets its contract: a Group met broken by its reason, any other node by 13.
-- Assumes nothing.
use Rattle.why.proofs.Visits.{reason-asked, visit-group, visit-other, visit-flat}
use Rattle.why.proofs.visit.Goals as goal

pub returns-then-table-at-ne-GROUP : goal.returns-then-table-at-ne-GROUP
returns-then-table-at-ne-GROUP c = visit-other c.requires c.if-table-at-ne-GROUP.true

pub returns-then-due-ne0 : goal.returns-then-due-ne0
returns-then-due-ne0 c = visit-flat c.requires c.if-due-ne0.true

pub reason-requires : goal.reason-requires
reason-requires c = reason-asked c.requires c.fill.ensures c.fill.auto.work c.if-table-at-ne-GROUP.false

pub returns : goal.returns
returns c = visit-group c.requires c.fill.ensures c.reason.result c.if-table-at-ne-GROUP.false c.if-due-ne0.false c.reason.ensures
