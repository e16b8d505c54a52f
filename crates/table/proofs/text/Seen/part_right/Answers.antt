-- `Seen::part_right` meets its contract: both of its tests. Assumes nothing.
use Rattle.std.proofs.Common.{rules}
use Rattle.table.specs.Fault.{columns_right}
use Rattle.table.proofs.text.Seen.part_right.Goals as goal

pub returns-then-part_unfed : goal.returns-then-part_unfed
unfolding columns_right
returns-then-part_unfed c = search rules

pub returns-else-part_unfed : goal.returns-else-part_unfed
unfolding columns_right
returns-else-part_unfed c = search rules
