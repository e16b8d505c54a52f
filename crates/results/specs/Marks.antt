-- The label of a row's mark as document 01's number: 0 is no mark, 1 the force, 2 the pluck point, 3 both.
use Rattle.std.specs.Prelude.{ℕ, Option, Some, None}
use Rattle.results.specs.declared.tolerance.Mark.{Mark}
use Rattle.results.specs.declared.tolerance.Mark.TheVariants.{Force, Pluck, Both}

abbrev pub number_of : Mark → ℕ
number_of Force = 1
number_of Pluck = 2
number_of Both = 3

abbrev pub label_number : Option Mark → ℕ
label_number None = 0
label_number (Some mark) = number_of mark
