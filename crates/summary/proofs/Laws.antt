-- What a summary says of the walk down a tree, and how summaries join as words.
--     summary-met      the walk comes through as the summary says, for every width up to 65,536
--     summary_bound    a summary is at most 65,538 as a word
--     join-words       one part after another, as words
--     came-bare, came-fits, came-past   a first part by its word: no Text, its Texts fit, or they don't
-- Assumes nothing.
use Prim.Native.Nat.{ℕ, ◌+◌, ◌-◌, ◌≤◌, ◌<◌}
use native.Mathlib.Omega.{arith}
use native.Mathlib.Decide.{dec_le}
use mathlib.Core.Path.{◌≡◌, refl, subst}
use mathlib.Core.Bool.{Bool, true, false}
use lib.Dec.{leb, eqb}
use borrow.Author.Tests.{leb-true, leb-false, le-leb, lt-leb, ne_eqb}
use Rattle.choice.specs.Pick.{pick}
use Rattle.table.specs.Unfold.{Tree, nil, append, group, flat_alt, nest, hardline, text, annotated, union, align, fail}
use Rattle.rules.specs.Layout.{Mode, flat, broken}
use Rattle.rules.specs.Why.{Reason, text_past, Met, through, found, then_meets, first_in}
use Rattle.summary.specs.Summary.{Summary, no_text, texts, never, wide, join, summary, word_of}
use Rattle.summary.specs.Promise.{join_words}

-- ---- as words

wide_bound : (k : ℕ) → word_of (wide k) ≤ 65538
wide_bound k = by (leb k 65536) refl
  where
    by : (b : Bool) → leb k 65536 ≡ b → word_of (pick b (texts k) never) ≤ 65538
    by true e = omega (arith, leb-true k 65536 e)
    by false e = omega arith

join_bound : (x y : Summary) → word_of x ≤ 65538 → word_of y ≤ 65538 → word_of (join x y) ≤ 65538
join_bound no_text y h g = g
join_bound (texts a) no_text h g = h
join_bound (texts a) (texts b) h g = wide_bound (a + b)
join_bound (texts a) never h g = g
join_bound never y h g = h

pub summary_bound : (t : Tree) (m : Mode) → word_of (summary t m) ≤ 65538
unfolding summary
summary_bound (nil n) m = omega arith
summary_bound (append n a b) m = join_bound (summary a m) (summary b m) (summary_bound a m) (summary_bound b m)
summary_bound (group n a) m = summary_bound a m
summary_bound (flat_alt n a b) flat = summary_bound b flat
summary_bound (flat_alt n a b) broken = summary_bound a broken
summary_bound (nest n a k way) m = summary_bound a m
summary_bound (hardline n) m = omega arith
summary_bound (text n bs cols) m = wide_bound cols
summary_bound (annotated n a l) m = summary_bound a m
summary_bound (union n a b) m = summary_bound b m
summary_bound (align n a) m = summary_bound a m
summary_bound (fail n) m = omega arith

pub join-words : (x y : Summary) → word_of (join x y) ≡ join_words (word_of x) (word_of y)
join-words no_text y = refl
join-words (texts a) no_text = let e : eqb (a + 1) 0 ≡ false = ne_eqb (a + 1) 0 (λ e. omega arith) in rw e
join-words (texts a) (texts b) =
    let e : eqb (a + 1) 0 ≡ false = ne_eqb (a + 1) 0 (λ e. omega arith) in
    let f : eqb (b + 1) 0 ≡ false = ne_eqb (b + 1) 0 (λ e. omega arith) in
    rw (e, f) (by (dec_le (a + b) 65536))
  where
    by : Dec (a + b ≤ 65536) → word_of (wide (a + b)) ≡ pick (leb (a + 1 + (b + 1)) 65538) (a + 1 + (b + 1) - 1) 65538
    by (yes h) = rw (le-leb (a + b) 65536 h, le-leb (a + 1 + (b + 1)) 65538 (omega arith)) (omega arith)
    by (no h) = rw (lt-leb (a + b) 65536 (omega arith), lt-leb (a + 1 + (b + 1)) 65538 (omega arith))
join-words (texts a) never =
    let e : eqb (a + 1) 0 ≡ false = ne_eqb (a + 1) 0 (λ e. omega arith) in
    rw (e, lt-leb (a + 1 + 65538) 65538 (omega arith))
join-words never no_text = refl
join-words never (texts b) =
    let e : eqb (b + 1) 0 ≡ false = ne_eqb (b + 1) 0 (λ e. omega arith) in
    rw (e, lt-leb (65538 + (b + 1)) 65538 (omega arith))
join-words never never = refl

-- ---- the walk

-- how the walk goes from column c down what has this summary
pub data Comes (W : ℕ) : Summary → ℕ → Met → Type 0 where
  unread : {c : ℕ} → Comes W no_text c (through c)
  fits : {k c : ℕ} → c + k ≤ W → Comes W (texts k) c (through (c + k))
  past : {k c : ℕ} {r : Reason} → W < c + k → Comes W (texts k) c (found r)
  stops : {c : ℕ} {r : Reason} → Comes W never c (found r)

module _ (W : ℕ) (small : W ≤ 65536) where
  -- Texts of k columns that fit, or don't
  wide_fits : (k c : ℕ) → c + k ≤ W → Comes W (wide k) c (through (c + k))
  wide_fits k c h = let e : leb k 65536 ≡ true = le-leb k 65536 (omega arith) in rw e (fits h)

  wide-past : (k c : ℕ) {r : Reason} → W < c + k → Comes W (wide k) c (found r)
  wide-past k c {r} h = by (leb k 65536)
    where
      by : (b : Bool) → Comes W (pick b (texts k) never) c (found r)
      by true = past h
      by false = stops

  -- what follows Texts of k columns that fit
  joins-fitting : (k c : ℕ) {y : Summary} {v : Met} → c + k ≤ W → Comes W y (c + k) v → Comes W (join (texts k) y) c v
  joins-fitting k c h unread = fits h
  joins-fitting k c h (fits {k = j} g) =
      let e : c + (k + j) ≡ c + k + j = omega arith in
      subst (λ end. Comes W (wide (k + j)) c (through end)) e (wide_fits (k + j) c (omega arith))
  joins-fitting k c h (past {k = j} g) = wide-past (k + j) c (omega arith)
  joins-fitting k c h stops = stops

  -- what follows Texts of k columns that don't
  joins-past : (k c : ℕ) (y : Summary) {r : Reason} → W < c + k → Comes W (join (texts k) y) c (found r)
  joins-past k c no_text h = past h
  joins-past k c (texts j) h = wide-past (k + j) c (omega arith)
  joins-past k c never h = stops

  join_comes : {x y : Summary} {c : ℕ} {v : Met} {next : ℕ → Met} → Comes W x c v → ((c : ℕ) → Comes W y c (next c)) → Comes W (join x y) c (then_meets v next)
  join_comes {c = c} unread h = h c
  join_comes {c = c} (fits {k = k} g) h = joins-fitting k c g (h (c + k))
  join_comes {y = y} {c = c} (past {k = k} g) h = joins-past k c y g
  join_comes stops h = stops

  pub summary-met : (t : Tree) (m : Mode) (c : ℕ) → Comes W (summary t m) c (first_in W t m c)
  unfolding summary first_in
  summary-met (nil n) m c = unread
  summary-met (append n a b) m c = join_comes (summary-met a m c) (λ c. summary-met b m c)
  summary-met (group n a) m c = summary-met a m c
  summary-met (flat_alt n a b) flat c = summary-met b flat c
  summary-met (flat_alt n a b) broken c = summary-met a broken c
  summary-met (nest n a k way) m c = summary-met a m c
  summary-met (hardline n) flat c = stops
  summary-met (hardline n) broken c = stops
  summary-met (text n bs cols) m c = by (leb (c + cols) W) refl
    where
      by : (b : Bool) → leb (c + cols) W ≡ b → Comes W (wide cols) c (elim b [ true ↦ through (c + cols) | false ↦ found (text_past n (c + cols)) ])
      by true e = wide_fits cols c (leb-true (c + cols) W e)
      by false e = wide-past cols c (leb-false (c + cols) W e)
  summary-met (annotated n a l) m c = summary-met a m c
  summary-met (union n a b) m c = summary-met b m c
  summary-met (align n a) m c = summary-met a m c
  summary-met (fail n) m c = stops

  -- ---- a first part by its word, at column c

  pub came-bare : {x : Summary} {c : ℕ} {v : Met} → Comes W x c v → word_of x ≡ 0 → v ≡ through c
  came-bare unread e = refl
  came-bare (fits h) e = absurd (omega arith)
  came-bare (past h) e = absurd (omega arith)
  came-bare stops e = absurd (omega arith)

  pub came-fits : {x : Summary} {c : ℕ} {v : Met} → Comes W x c v → (word_of x ≡ 0 → ⊥) → c + (word_of x - 1) ≤ W → v ≡ through (c + (word_of x - 1))
  came-fits unread some h = absurd (some refl)
  came-fits (fits {k = k} {c = c} g) some h = let e : k + 1 - 1 ≡ k = omega arith in rw e
  came-fits (past g) some h = absurd (omega arith)
  came-fits stops some h = absurd (omega arith)

  pub came-past : {x : Summary} {c : ℕ} {v : Met} (next : ℕ → Met) → Comes W x c v → (word_of x ≡ 0 → ⊥) → W < c + (word_of x - 1) → then_meets v next ≡ v
  came-past next unread some h = absurd (some refl)
  came-past next (fits g) some h = absurd (omega arith)
  came-past next (past g) some h = refl
  came-past next stops some h = refl
