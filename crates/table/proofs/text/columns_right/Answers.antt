-- `table::columns_right` meets its contract: both of its tests. Assumes nothing.
use Rattle.std.proofs.Common.{rules}
use Rattle.table.specs.Fault.{columns_right}
use Rattle.table.proofs.text.columns_right.Goals as goal

pub returns : goal.returns
unfolding columns_right
returns c = search rules
