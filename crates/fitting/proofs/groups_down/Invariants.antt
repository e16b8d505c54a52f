-- `fitting::groups_down` meets its contract: the loop carries `InRow`, each Group by `row_on`.
-- Assumes nothing.
use Rattle.fitting.proofs.Row.{InRow}
use Rattle.fitting.proofs.groups_down.Given as goal

abbrev pub invariant-loop-down : goal.invariant-loop-down
invariant-loop-down l = InRow l.table l.fn.node.0 l.steps l.here.0 l.down
