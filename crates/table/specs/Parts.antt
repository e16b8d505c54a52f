-- What validation's code answers: a fault told, and the answer for a Text alone.
use Rattle.std.specs.Prelude.{ℕ, ◌+◌, ◌≡◌, Result, Ok, Err, ⊤, List, length, take, drop, leb}
use Rattle.choice.specs.Pick.{pick}
use Rattle.table.specs.Fault.{Fault, fault, none, columns_right}
use Rattle.table.specs.Refusal.{number}
use Rattle.table.specs.declared.Fault.{Fault as Told}

-- none, or the refusal's number and the place
abbrev pub told : Result ⊤ Told → Fault
told (Ok valid) = none
told (Err f) = fault (number f.why) f.place.0

abbrev pub Tells : Result ⊤ Told → Fault → Type 0
Tells r f = told r ≡ f

-- 0, or the first of 4, 5, for a Text with offset a, length b and columns c
abbrev pub text_fault : List ℕ → ℕ → ℕ → ℕ → ℕ
text_fault text a b c = pick (leb (a + b) (length text)) (pick (columns_right (take b (drop a text)) c) 0 5) 4
