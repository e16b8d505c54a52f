-- Laws of the constructors by number: which one a number makes, and what is left of the caller's words.
--     reading-rest, any-rest                      the last arm of each match
--     counts-set, built-short, built-left         the words that are lent
--     makes-short, makes_unknown, makes-left      what `pursegable_make` answers in each case
-- Assumes nothing.
use mathlib.Core.Path.{◌≡◌, refl, sym, ap, ◌∙◌}
use mathlib.Core.Bool.{Bool, true, false, not, ◌&&◌}
use mathlib.Core.List.{List, [], ◌∷◌}
use Prim.Native.Nat.{ℕ, ◌<◌, ◌≤◌}
use native.Mathlib.Omega.{arith}
use lib.Dec.{leb}
use borrow.Author.Tests.{lt-leb, le-leb, ne_eqb}
use lib.ListN.{length, get_or, set, drop}
use Rattle.choice.specs.Pick.{pick}
use Rattle.build.specs.declared.Counts.{Counts}
use Rattle.build.specs.Outcome.{Made}
use Rattle.build.specs.Draft.{counts_of}
use Rattle.build.specs.Outcome.{Outcome, outcome}
use Rattle.build.specs.Constructors.{enclose_made}
use Rattle.pursegable.specs.Building.{counts_words, Left, left, answer_of, counts_after, left_by, built, known, reading_made, any_made, makes}

-- ---- by number

-- the number is none of these, the last first: what is known in the last arm of a match
abbrev pub NoneOf : ℕ → List ℕ → Type 0
NoneOf what [] = Unit {0}
NoneOf what (k ∷ ks) = NoneOf what ks × (what ≡ k → ⊥)

module _ (what a b d : ℕ) (s : Counts) (t x : List ℕ) where
  pub reading-rest : NoneOf what (16 ∷ 15 ∷ 13 ∷ 10 ∷ 9 ∷ 8 ∷ 7 ∷ 5 ∷ 4 ∷ 3 ∷ 2 ∷ 1 ∷ 0 ∷ []) → {o : Outcome} → o ≡ enclose_made s t x a b d → o ≡ reading_made what a b d s t x
  unfolding reading_made
  reading-rest (((((((((((((_, h0), h1), h2), h3), h4), h5), h7), h8), h9), h10), h13), h15), h16) e =
      e
      ∙ simp (
        ne_eqb what 0 h0,
        ne_eqb what 1 h1,
        ne_eqb what 2 h2,
        ne_eqb what 3 h3,
        ne_eqb what 4 h4,
        ne_eqb what 5 h5,
        ne_eqb what 7 h7,
        ne_eqb what 8 h8,
        ne_eqb what 9 h9,
        ne_eqb what 10 h10,
        ne_eqb what 13 h13,
        ne_eqb what 15 h15,
        ne_eqb what 16 h16,
      )

  pub any-rest : NoneOf what (17 ∷ 14 ∷ 12 ∷ 11 ∷ []) → {o : Outcome} → o ≡ reading_made what a b d s t x → o ≡ any_made what a b d s t x
  unfolding any_made
  any-rest ((((_, h11), h12), h14), h17) e = e ∙ simp (ne_eqb what 11 h11, ne_eqb what 12 h12, ne_eqb what 14 h14, ne_eqb what 17 h17)

-- ---- the builder's words

pub counts-set : (cs : List ℕ) (a b d : ℕ) → counts_words ≤ length cs → set (set (set cs 0 a) 1 b) 2 d ≡ a ∷ b ∷ d ∷ drop counts_words cs
counts-set [] a b d h = absurd (omega arith)
counts-set (x ∷ []) a b d h = absurd (omega arith)
counts-set (x ∷ y ∷ []) a b d h = absurd (omega arith)
counts-set (x ∷ y ∷ z ∷ cs) a b d h = refl

-- the counts that the words say
abbrev read : List ℕ → Counts
read cs = counts_of (get_or cs 0 0) (get_or cs 1 0)

-- f: what a constructor makes; table, text and words at the start, and as they are left
module _ (f : Counts → List ℕ → List ℕ → Outcome) (t x cs : List ℕ) where
  pub built-short : length cs < counts_words → left 1 t x cs ≡ built f t x cs
  unfolding built
  built-short h = simp (lt-leb counts_words (length cs) h)

  pub built-left : {s : Counts} {made : Made} {t' x' cs' : List ℕ} {r : ℕ} → counts_words ≤ length cs → s ≡ read cs
      → outcome made t' x' ≡ f s t x → (r ≡ answer_of made) × (cs' ≡ counts_after made cs)
      → left r t' x' cs' ≡ built f t x cs
  unfolding built
  built-left {s} {made} {t'} {x'} {cs'} enough is o settled =
      let at : f s t x ≡ f (read cs) t x = ap (λ (c : Counts). f c t x) is in
      ap (λ (a : ℕ). left a t' x' cs') settled.0
      ∙ ap (λ (c : List ℕ). left (answer_of made) t' x' c) settled.1
      ∙ ap (λ (u : Outcome). left_by u cs) (o ∙ at)
      ∙ ap (λ (b : Bool). pick b (left_by (f (read cs) t x) cs) (left 1 t x cs)) (sym (le-leb counts_words (length cs) enough))

-- ---- make

module _ (what a b d : ℕ) (t x cs : List ℕ) where
  abbrev made_by : Left
  made_by = built (any_made what a b d) t x cs

  -- by whether the words are enough, and whether the number is known
  abbrev by_tests : Bool → Bool → Left
  by_tests enough is = pick (enough && not is) (left 2 t x cs) made_by

  makes-is : (enough is : Bool) → leb counts_words (length cs) ≡ enough → known what ≡ is → by_tests enough is ≡ makes what a b d t x cs
  unfolding makes
  makes-is enough is e k = ap (by_tests enough) (sym k) ∙ ap (λ (b : Bool). by_tests b (known what)) (sym e)

  pub makes-short : length cs < counts_words → left 1 t x cs ≡ makes what a b d t x cs
  makes-short h = built-short (any_made what a b d) t x cs h ∙ makes-is false (known what) (lt-leb counts_words (length cs) h) refl

  pub makes_unknown : counts_words ≤ length cs → known what ≡ false → left 2 t x cs ≡ makes what a b d t x cs
  makes_unknown h k = makes-is true false (le-leb counts_words (length cs) h) k

  pub makes-left : {s : Counts} {made : Made} {t' x' cs' : List ℕ} {r : ℕ} → counts_words ≤ length cs → known what ≡ true → s ≡ read cs
      → outcome made t' x' ≡ any_made what a b d s t x → (r ≡ answer_of made) × (cs' ≡ counts_after made cs)
      → left r t' x' cs' ≡ makes what a b d t x cs
  makes-left h k is o settled = built-left (any_made what a b d) t x cs h is o settled ∙ makes-is true true (le-leb counts_words (length cs) h) k
