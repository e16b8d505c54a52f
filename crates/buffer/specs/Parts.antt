-- The parts of a text: what stands between two places, its lines, where a part and a run of blanks end, how many columns it takes, and what it has.
use Rattle.std.specs.Prelude.{ℕ, suc, ◌+◌, ◌-◌, ◌≤◌, ◌≡◌, Bool, true, false, ◌||◌, ◌&&◌, List, [], ◌∷◌, length, get_or, take, drop, eqb, leb, ltb}
use Rattle.choice.specs.Pick.{pick}

-- the bytes between two places
abbrev pub between : List ℕ → ℕ → ℕ → List ℕ
between s from end = take (end - from) (drop from s)

-- how many stand before the first b; all of them where there is none
unfoldable pub index_of : ℕ → List ℕ → ℕ
index_of b [] = 0
index_of b (x ∷ xs) = pick (eqb x b) 0 (suc (index_of b xs))

-- one byte more at the front of the first line
abbrev pub before : ℕ → List (List ℕ) → List (List ℕ)
before b [] = (b ∷ []) ∷ []
before b (l ∷ ls) = (b ∷ l) ∷ ls

-- the lines, without their line feeds; what stands behind the last one is a line if it is anything
unfoldable pub lines : List ℕ → List (List ℕ)
lines [] = []
lines (b ∷ bs) = pick (eqb b 10) ([] ∷ lines bs) (before b (lines bs))

-- where the line ends that starts at a place
pub record LineEnds (s : List ℕ) (at end : ℕ) : Type 0 where
  pub is : end ≡ at + index_of 10 (drop at s)
  pub ahead : at ≤ end
  pub within : end ≤ length s

-- where a line ends without the carriage return at its end
unfoldable pub body_end : List ℕ → ℕ
body_end s = pick (ltb 0 (length s) && eqb (get_or s (length s - 1) 0) 13) (length s - 1) (length s)

-- how many blanks a text starts with
unfoldable pub blanks : List ℕ → ℕ
blanks [] = 0
blanks (b ∷ bs) = pick (eqb b 32) (suc (blanks bs)) 0

-- the next place from there on that is no blank
abbrev pub skipped : List ℕ → ℕ → ℕ
skipped s from = from + blanks (drop from s)

-- how much of a text is left without the blanks at its end
unfoldable pub trimmed : List ℕ → ℕ
trimmed [] = 0
trimmed (b ∷ bs) = pick (eqb (trimmed bs) 0 && eqb b 32) 0 (suc (trimmed bs))

-- a byte that goes on with a character
abbrev pub goes_on : ℕ → Bool
goes_on b = leb 128 b && leb b 191

-- a column for each character
unfoldable pub characters : List ℕ → ℕ
characters [] = 0
characters (b ∷ bs) = pick (goes_on b) (characters bs) (suc (characters bs))

-- nothing, or blanks only
unfoldable pub blank : List ℕ → Bool
blank [] = true
blank (b ∷ bs) = eqb b 32 && blank bs

-- a byte below 32, or 127
unfoldable pub controls : List ℕ → Bool
controls [] = false
controls (b ∷ bs) = (ltb b 32 || eqb b 127) || controls bs
