-- A number as it is written: its digits, and tenths with a point.
use Rattle.std.specs.Prelude.{ℕ, zero, suc, ◌+◌, ◌/◌, ◌%◌, List, [], ◌∷◌, ◌++◌, eqb}
use Rattle.choice.specs.Pick.{pick}

-- its last digits, at most so many, before what stands
unfoldable pub digits_on : ℕ → ℕ → List ℕ → List ℕ
digits_on zero n behind = behind
digits_on (suc room) n behind = pick (eqb (n / 10) 0) ((48 + n % 10) ∷ behind) (digits_on room (n / 10) ((48 + n % 10) ∷ behind))

-- a number has at most twenty
abbrev pub decimal : ℕ → List ℕ
decimal n = digits_on 20 n []

-- tenths: the whole, a point, and one digit
abbrev pub pointed : ℕ → List ℕ
pointed n = decimal (n / 10) ++ (46 ∷ []) ++ decimal (n % 10)
