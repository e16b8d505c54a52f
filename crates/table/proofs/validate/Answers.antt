-- `table::validate` meets its contract: 1 comes first, then the nodes from 0 up. Assumes nothing.
use Rattle.std.proofs.Common.{rules}
use Rattle.table.specs.Fault.{check}
use Rattle.table.proofs.validate.Goals as goal

pub returns-then-not-sizes_right : goal.returns-then-not-sizes_right
unfolding check
returns-then-not-sizes_right c = search rules

pub returns : goal.returns
unfolding check
returns c = search rules
