-- `table::first_fault` meets its contract: the nodes before n have no fault. Assumes nothing.
use mathlib.Core.Path.{◌≡◌}
use Rattle.table.specs.Fault.{none, first_fault}
use Rattle.table.proofs.first_fault.Given as goal

abbrev pub invariant-loop-n : goal.invariant-loop-n
invariant-loop-n l = first_fault l.table l.seen.text.now l.n ≡ none
