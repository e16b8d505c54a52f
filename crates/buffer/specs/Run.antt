-- What a run of stores leaves of a buffer, over any element. proofs/Put.antt has the laws.
use Rattle.std.specs.Prelude.{ℕ, ◌+◌, ◌-◌, Bool, true, ◌&&◌, List, [], ◌∷◌, ◌++◌, eqb, length, take, drop, replicate}

-- d with s standing in it from `at` on
unfoldable pub put : {A : Type 0} → List A → ℕ → List A → List A
put d at s = take at d ++ s ++ drop (at + length s) d

-- d with 0 everywhere from `at` on
abbrev pub zeroed : List ℕ → ℕ → List ℕ
zeroed d at = take at d ++ replicate (length d - at) 0

-- whether every element is 0
unfoldable pub all_zero : List ℕ → Bool
all_zero [] = true
all_zero (x ∷ xs) = eqb x 0 && all_zero xs
