-- The laws of the parts of a text, over plain lists.
--     more, done, rest-is           what is left of a list: one more, nothing, all of it
--     starts_is                     the bytes of characters
--     ..-is, first-or-all, trimmed_is   what the definitions are in the library's words: a count, the first that passes
--     line_first                    the first line, and those after it
--     body-within, index-within, part-within   ends lie within
-- Assumes nothing.
use Prim.Native.Nat.{ℕ, zero, suc, ◌+◌, ◌-◌, ◌≤◌, ◌<◌}
use native.Mathlib.Omega.{arith}
use native.Mathlib.Numerals.{add-one}
use native.Mathlib.Nat.{add-suc, not-suc-le-zero, le_of_suc-le-suc}
use mathlib.Core.Path.{◌≡◌, refl, sym, ap, ◌∙◌}
use mathlib.Core.Bool.{Bool, true, false, not, cond, ◌&&◌, ◌||◌}
use mathlib.Core.List.{List, [], ◌∷◌}
use lib.ListN.{length, get_or, take, drop, length-drop}
use Rattle.std.specs.List.{count_by, position, position_or_len}
use Rattle.std.specs.Option.{unwrap_or}
use Rattle.std.proofs.Common.{Some, None}
use Rattle.std.proofs.lemmas.List.Recursion.{is_count_by, is_position_or_len}
use Rattle.std.proofs.lemmas.List.Sums.{prefix_len-le-length}
use lib.Seq.{drop-cons, drop-drop, take_all}
use lib.Dec.{eqb, ltb}
use borrow.Author.Tests.{le-leb, lt-leb, ne_eqb, ltb-true, ltb-false}
use Rattle.choice.specs.Pick.{pick}
use Rattle.buffer.specs.Parts.{index_of, before, lines, body_end, blanks, trimmed, goes_on, characters}

-- ---- what is left of a list

pub more : (s : List ℕ) (i : ℕ) → i < length s → drop i s ≡ get_or s i 0 ∷ drop (i + 1) s
more s i h = rw (add-one, drop-cons s i 0)

pub done : (s : List ℕ) (i : ℕ) → length s ≤ i → drop i s ≡ []
done [] zero h = refl
done [] (suc i) h = refl
done (x ∷ s) zero h = absurd (not-suc-le-zero h)
done (x ∷ s) (suc i) h = done s i (le_of_suc-le-suc h)

-- all from a place on
pub rest-is : (s : List ℕ) (at : ℕ) → take (length s - at) (drop at s) ≡ drop at s
rest-is s at = take_all (length s - at) (drop at s) (simp length-drop (omega arith))

-- a byte goes on with a character where it starts none
pub starts_is : (b : ℕ) → goes_on b ≡ not (ltb b 128 || ltb 191 b)
starts_is b = go (ltb b 128) (ltb 191 b) refl refl
  where
    go : (t u : Bool) → ltb b 128 ≡ t → ltb 191 b ≡ u → goes_on b ≡ not (t || u)
    go true u e f = rw (lt-leb 128 b (ltb-true b 128 e))
    go false true e f = rw (le-leb 128 b (ltb-false b 128 e), lt-leb b 191 (ltb-true 191 b f))
    go false false e f = rw (le-leb 128 b (ltb-false b 128 e), le-leb b 191 (ltb-false 191 b f))

-- ---- what each definition is in the library's words

pub characters-is : (s : List ℕ) → characters s ≡ count_by (λ b. ltb b 128 || ltb 191 b) s
unfolding characters
characters-is s = is_count_by characters (λ b. ltb b 128 || ltb 191 b) refl (λ b bs. rw starts_is (go (ltb b 128 || ltb 191 b) (characters bs))) s
  where
    go : (t : Bool) (n : ℕ) → pick (not t) n (suc n) ≡ cond t (1 + n) n
    go true n = omega arith
    go false n = refl

pub index-is : (b : ℕ) (s : List ℕ) → index_of b s ≡ position_or_len (λ x. eqb x b) s
unfolding index_of
index-is b s = is_position_or_len (index_of b) (λ x. eqb x b) refl (λ x xs. go (eqb x b) (index_of b xs)) s where
  go : (t : Bool) (n : ℕ) → pick t 0 (suc n) ≡ cond t 0 (1 + n)
  go true n = refl
  go false n = omega arith

pub blanks-is : (s : List ℕ) → blanks s ≡ position_or_len (λ x. not (eqb x 32)) s
unfolding blanks
blanks-is s = is_position_or_len blanks (λ x. not (eqb x 32)) refl (λ x xs. go (eqb x 32) (blanks xs)) s where
  go : (t : Bool) (n : ℕ) → pick t (suc n) 0 ≡ cond (not t) 0 (1 + n)
  go true n = omega arith
  go false n = refl

-- what `position` finds, or that it finds nothing
pub first-or-all : (p : ℕ → Bool) (s : List ℕ) → unwrap_or (position p s) (length s) ≡ position_or_len p s
first-or-all p s = go (ltb n (length s)) refl where
  n : ℕ
  n = position_or_len p s

  go : (t : Bool) → ltb n (length s) ≡ t → unwrap_or (cond t (Some n) None) (length s) ≡ n
  go true e = refl
  go false e = omega (arith, ltb-false n (length s) e, prefix_len-le-length (λ x. not (p x)) s)

-- blanks from n on, and none before them
pub trimmed_is : (s : List ℕ) (n : ℕ) → n ≤ length s → ((k : ℕ) → n ≤ k → k < length s → eqb (get_or s k 0) 32 ≡ true) → ((k : ℕ) → k + 1 ≡ n → eqb (get_or s k 0) 32 ≡ false) → n ≡ trimmed s
unfolding trimmed
trimmed_is [] n h behind other = omega arith
trimmed_is (b ∷ s) zero h behind other =
    let rest = trimmed_is s 0 (omega arith) (λ k l m. behind (suc k) (omega arith) (omega arith)) (λ k e. absurd (omega arith)) in
    rw (← rest, behind 0 (omega arith) (omega arith)) refl
trimmed_is (b ∷ s) (suc zero) h behind other =
    let rest = trimmed_is s 0 (omega arith) (λ k l m. behind (suc k) (omega arith) (omega arith)) (λ k e. absurd (omega arith)) in
    rw (← rest, other 0 (omega arith)) refl
trimmed_is (b ∷ s) (suc (suc n)) h behind other =
    let rest = trimmed_is s (suc n) (omega arith) (λ k l m. behind (suc k) (omega arith) (omega arith)) (λ k e. other (suc k) (omega arith)) in
    rw (← rest, ne_eqb (suc n) 0 (λ e. omega arith)) refl

-- ---- lines

-- the first line and the others, where the first byte of a text is looked at, and k bytes stand before the feed
abbrev first_of : ℕ → List ℕ → List (List ℕ)
first_of k s = take k s ∷ lines (drop (suc k) s)

line_first-cons : (b : ℕ) (s : List ℕ) → lines (b ∷ s) ≡ first_of (index_of 10 (b ∷ s)) (b ∷ s)
unfolding index_of lines
line_first-cons b [] = go (eqb b 10)
  where
    go : (t : Bool) → pick t ([] ∷ []) ((b ∷ []) ∷ []) ≡ first_of (pick t 0 1) (b ∷ [])
    go true = refl
    go false = refl
line_first-cons b (x ∷ s) = go (eqb b 10) (line_first-cons x s)
  where
    rest : List ℕ
    rest = x ∷ s

    go : (t : Bool) → lines rest ≡ first_of (index_of 10 rest) rest → pick t ([] ∷ lines rest) (before b (lines rest)) ≡ first_of (pick t 0 (suc (index_of 10 rest))) (b ∷ rest)
    go true e = refl
    go false e = ap (before b) e

-- what is left at a place has a first line, and the others start behind it
pub line_first : (s : List ℕ) (at : ℕ) → at < length s → lines (drop at s) ≡ take (index_of 10 (drop at s)) (drop at s) ∷ lines (drop (at + index_of 10 (drop at s) + 1) s)
line_first s at h =
    let e = more s at h in
    let k = index_of 10 (drop at s) in
    let f : lines (drop at s) ≡ first_of k (drop at s) = rw e (line_first-cons (get_or s at 0) (drop (at + 1) s)) in
    f ∙ ap (λ (l : List ℕ). take k (drop at s) ∷ lines l) (drop-drop (suc k) at s ∙ ap (λ (n : ℕ). drop n s) (add-suc at k ∙ sym (add-one (at + k))))

-- ---- ends

pub body-within : (s : List ℕ) → body_end s ≤ length s
unfolding body_end
body-within s = go (ltb 0 (length s) && eqb (get_or s (length s - 1) 0) 13)
  where
    go : (t : Bool) → pick t (length s - 1) (length s) ≤ length s
    go true = omega arith
    go false = omega arith

pub index-within : (b : ℕ) (s : List ℕ) → index_of b s ≤ length s
unfolding index_of
index-within b [] = omega arith
index-within b (x ∷ s) = go (eqb x b) (index-within b s)
  where
    go : (t : Bool) → index_of b s ≤ length s → pick t 0 (suc (index_of b s)) ≤ suc (length s)
    go true h = omega arith
    go false h = omega arith

pub part-within : (s : List ℕ) (at b : ℕ) → at ≤ length s → at + index_of b (drop at s) ≤ length s
part-within s at b h = omega (arith, index-within b (drop at s), length-drop at s)
