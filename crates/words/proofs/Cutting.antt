-- The laws of cutting a text into words.
--     place, Behind, Noted, blank-here, no-blank     the last blank, and one byte more
--     goes_on_lem, words-end, word_on, at-blank, all-together     where words end that stay together
--     words-next, no_words        the next word, and the last
-- Assumes nothing.
use Prim.Native.Nat.{ℕ, zero, suc, ◌+◌, ◌-◌, ◌≤◌, ◌<◌}
use native.Mathlib.Omega.{arith}
use mathlib.Core.Path.{◌≡◌, refl, sym, ap, ◌∙◌}
use mathlib.Core.Bool.{true, false}
use mathlib.Core.List.{List, [], ◌∷◌}
use lib.ListN.{length, get_or, take, drop, length-drop}
use lib.Seq.{drop-drop}
use Rattle.std.specs.Prelude.{Option, Some, None}
use Rattle.std.specs.Option.{unwrap_or}
use lib.Dec.{eqb, ltb}
use borrow.Author.Tests.{lt-ltb, eq-eqb, ne_eqb}
use Rattle.choice.specs.Pick.{pick}
use Rattle.buffer.specs.Parts.{goes_on, blanks, skipped}
use Rattle.buffer.proofs.Reading.{more, done}
use Rattle.words.specs.Words.{ends, together_on, together, words_on}

-- ---- words that stay together

-- the last blank, 0 for none
abbrev pub place : Option ℕ → ℕ
place None = 0
place (Some k) = k

-- it lies behind the first byte and before a place
abbrev pub Behind : ℕ → Option ℕ → Type 0
Behind i None = Unit {0}
Behind i (Some k) = (0 < k) × (k < i)

pub behind-further : (i : ℕ) (blank : Option ℕ) → Behind i blank → Behind (i + 1) blank
behind-further i None h = tt
behind-further i (Some k) h = (h.0, omega (arith, h.1))

-- the last blank after one byte more
abbrev pub Noted : ℕ → ℕ → Option ℕ → Option ℕ → Type 0
Noted b i last blank = (place blank ≡ pick (eqb b 32) i (place last)) × Behind (i + 1) blank

module _ (b i : ℕ) (last blank : Option ℕ) where
  pub blank-here : 0 < i → b ≡ 32 → blank ≡ Some i → Noted b i last blank
  blank-here h e f = rw (f, eq-eqb b 32 e) (refl, (h, omega arith))

  pub no-blank : Behind i last → (b ≡ 32 → ⊥) → blank ≡ last → Noted b i last blank
  no-blank h n f = rw (f, ne_eqb b 32 n) (refl, behind-further i last h)

module _ (most wide last : ℕ) (s : List ℕ) (i : ℕ) (h : i < length s) where
  pub goes_on_lem : goes_on (get_or s i 0) ≡ true → together_on most wide last i (drop i s) ≡ together_on most wide last (i + 1) (drop (i + 1) s)
  unfolding together_on
  goes_on_lem e = rw (more s i h, e)

  module _ (starts : goes_on (get_or s i 0) ≡ false) (blank : ℕ) (is : blank ≡ pick (eqb (get_or s i 0) 32) i last) where
    pub words-end : true ≡ ends most wide (get_or s i 0) → together_on most wide last i (drop i s) ≡ pick (ltb 0 blank) blank i
    unfolding together_on
    words-end e = rw (more s i h, starts, ← is, ← e)

    pub word_on : false ≡ ends most wide (get_or s i 0) → together_on most wide last i (drop i s) ≡ together_on most (wide + 1) blank (i + 1) (drop (i + 1) s)
    unfolding together_on
    word_on e = rw (more s i h, starts, ← is, ← e)

-- at the last blank if there is one, else here
pub at-blank : (r i : ℕ) (blank : Option ℕ) → 0 < i → Behind (i + 1) blank → r ≡ unwrap_or blank i → (r ≡ pick (ltb 0 (place blank)) (place blank) i) × (0 < r) × (r ≤ i)
at-blank r i None h b e = (e, omega (arith, e, h), omega (arith, e))
at-blank r i (Some k) h b e = rw (lt-ltb 0 k b.0) (e, omega (arith, e, b.0), omega (arith, e, b.1))

pub all-together : (most wide last : ℕ) (s : List ℕ) (i : ℕ) → length s ≤ i → together_on most wide last i (drop i s) ≡ i
unfolding together_on
all-together most wide last s i h = rw (done s i h)

-- ---- one word after the other

word_first : (most n : ℕ) (s : List ℕ) → 0 < length s → words_on most (suc n) s ≡ take (together most s) s ∷ words_on most n (drop (skipped s (together most s)) s)
unfolding words_on
word_first most n [] h = absurd (omega arith)
word_first most n (b ∷ s) h = refl

pub words-next : (most left : ℕ) (s : List ℕ) (at size at' : ℕ) → at < length s → 0 < left → size ≡ together most (drop at s) → at' ≡ skipped s (at + size) → words_on most left (drop at s) ≡ take size (drop at s) ∷ words_on most (left - 1) (drop at' s)
words-next most left s at size at' h some e e' =
    let t = drop at s in
    let one : left ≡ suc (left - 1) = omega arith in
    let behind : at + skipped t size ≡ at' = ap (λ (l : List ℕ). at + (size + blanks l)) (drop-drop size at s) ∙ omega arith in
    let rest : drop (skipped t size) t ≡ drop at' s = drop-drop (skipped t size) at s ∙ ap (λ (k : ℕ). drop k s) behind in
    ap (λ (k : ℕ). words_on most k t) one ∙ word_first most (left - 1) t (simp length-drop (omega arith))
    ∙ ap (λ (k : ℕ). take k t ∷ words_on most (left - 1) (drop (skipped t k) t)) (sym e)
    ∙ ap (λ (l : List ℕ). take size t ∷ words_on most (left - 1) l) rest

pub no_words : (most n : ℕ) → words_on most n [] ≡ []
unfolding words_on
no_words most zero = refl
no_words most (suc n) = refl
