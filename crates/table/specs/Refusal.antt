-- The number of a refusal: document 01's for each of answers 1 to 9.
use Rattle.std.specs.Prelude.{ℕ, Result, Ok, Err}
use Rattle.table.specs.declared.refusal.Refusal.{Refusal}
use Rattle.table.specs.declared.refusal.Refusal.TheVariants.{BadSize, BadKind, BadChild, BadRange, BadText, FailMet, NoSteps, NoOutput, NoEvents}

-- document 01's number for each refusal; 0 is none
abbrev pub number : Refusal → ℕ
number BadSize = 1
number BadKind = 2
number BadChild = 3
number BadRange = 4
number BadText = 5
number FailMet = 6
number NoSteps = 7
number NoOutput = 8
number NoEvents = 9

-- the number that answers: 0, or the refusal's
abbrev pub answer_of : {A : Type 0} → Result A Refusal → ℕ
answer_of (Ok done) = 0
answer_of (Err why) = number why
