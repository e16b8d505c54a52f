-- Numbers as a line writes them.
use Rattle.std.specs.Prelude.{ℕ, ◌+◌, ◌-◌, ◌*◌, ◌<◌, Bool, ◌&&◌, ◌||◌, List, [], ◌∷◌, length, get_or, take, drop, eqb, leb, Option, Some, None}
use Rattle.choice.specs.Pick.{pick}

-- 0 to 9
abbrev pub digit : ℕ → Bool
digit b = leb 48 b && leb b 57

-- a number so far, and the digits that follow
unfoldable pub digits : ℕ → List ℕ → Option ℕ
digits n [] = Some n
digits n (b ∷ bs) = pick (digit b) (digits (n * 10 + (b - 48)) bs) None

-- one to four digits
unfoldable pub number_of : List ℕ → Option ℕ
number_of s = pick (leb 1 (length s) && leb (length s) 4) (digits 0 s) None

-- a number of at most four digits, if it is one
abbrev pub Small : Option ℕ → Type 0
Small None = Unit {0}
Small (Some n) = n < 10000

-- a whole number and a digit make tenths
unfoldable pub tenths_add : Option ℕ → Option ℕ → Option ℕ
tenths_add None d = None
tenths_add (Some w) None = None
tenths_add (Some w) (Some d) = Some (w * 10 + d)

-- one or two digits, a point or a comma, one digit
unfoldable pub tenths_of : List ℕ → Option ℕ
tenths_of s =
    pick (leb 3 (length s) && leb (length s) 4 && (eqb (get_or s (length s - 2) 0) 46 || eqb (get_or s (length s - 2) 0) 44))
    (tenths_add (number_of (take (length s - 2) s)) (number_of (drop (length s - 1) s)))
    None
