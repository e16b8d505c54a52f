-- The words of a text: cut at its blanks, and kept together up to so many columns.
use Rattle.std.specs.Prelude.{ℕ, zero, suc, ◌+◌, Bool, ◌&&◌, ◌||◌, List, [], ◌∷◌, take, drop, eqb, leb, ltb}
use Rattle.choice.specs.Pick.{pick}
use Rattle.buffer.specs.Parts.{goes_on, skipped}

-- whether words end before a byte: they have all the columns there are, or twelve of them and a blank follows
abbrev pub ends : ℕ → ℕ → ℕ → Bool
ends most wide b = leb most wide || (leb 12 wide && eqb b 32)

-- where words end that stay together, so many columns of them taken up to a place, the last blank among them or 0, and what follows
unfoldable pub together_on : ℕ → ℕ → ℕ → ℕ → List ℕ → ℕ
together_on most wide last i [] = i
together_on most wide last i (b ∷ bs) =
    let blank = pick (eqb b 32) i last in
    pick (goes_on b) (together_on most wide last (i + 1) bs)
    (pick (ends most wide b) (pick (ltb 0 blank) blank i)
    (together_on most (wide + 1) blank (i + 1) bs))

-- of a text that starts with a word: at a blank once they have enough columns, else at the last blank before they have too many
abbrev pub together : ℕ → List ℕ → ℕ
together most s = together_on most 1 0 1 (drop 1 s)

-- at most n words more
unfoldable pub words_on : ℕ → ℕ → List ℕ → List (List ℕ)
words_on most zero s = []
words_on most (suc n) [] = []
words_on most (suc n) (b ∷ bs) =
    let size = together most (b ∷ bs) in
    take size (b ∷ bs) ∷ words_on most n (drop (skipped (b ∷ bs) size) (b ∷ bs))
