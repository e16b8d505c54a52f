-- Event records in a slice of words: the first n, and one more.
-- Assumes nothing.
use mathlib.Core.Path.{◌≡◌, refl, sym, ap, ◌∙◌}
use Prim.Native.Nat.{ℕ, zero, suc, ◌+◌, ◌*◌, ◌≤◌, ◌<◌}
use native.Mathlib.Omega.{arith}
use native.Mathlib.Decide.{dec_le}
use native.Mathlib.Numerals.{add-one}
use mathlib.Core.List.{List, [], ◌∷◌, ◌++◌}
use lib.ListN.{get_or, length, set, take, length-append, length-set}
use lib.Seq.{get_or-set_same, get_or-set_other, take-append-le, take-length}
use Rattle.rules.specs.Call.{event_words}
use Rattle.page.specs.Reading.{event_at, events_of}

pub length-events : (n : ℕ) (ev : List ℕ) → length (events_of n ev) ≡ n
unfolding events_of
length-events zero ev = refl
length-events (suc n) ev = length-append (events_of n ev) _ ∙ ap (λ (k : ℕ). k + 1) (length-events n ev) ∙ add-one n

-- a front of the first n records is the first k
pub events-front : (n k : ℕ) (ev : List ℕ) → k ≤ n → take k (events_of n ev) ≡ events_of k ev
unfolding events_of
events-front zero zero ev le = refl
events-front zero (suc k) ev le = absurd (omega arith)
events-front (suc n) k ev le = by (λ l. events-front n k ev l) (dec_le k n)
  where
    by : (k ≤ n → take k (events_of n ev) ≡ events_of k ev) → Dec (k ≤ n) → take k (events_of n ev ++ (event_at ev n ∷ [])) ≡ events_of k ev
    by ih (yes l) = let h : k ≤ length (events_of n ev) = rw (length-events n ev) l in rw take-append-le (ih l)
    by ih (no l) =
        let e : k ≡ suc n = omega arith in
        let f : length (events_of (suc n) ev) ≡ k = length-events (suc n) ev ∙ sym e in
        rw (← f) (take-length (events_of (suc n) ev)) ∙ ap (λ (j : ℕ). events_of j ev) (sym e)

-- records depend on their own words
events-same : (n : ℕ) (ev ev' : List ℕ) → ((i : ℕ) → i < n * event_words → get_or ev' i 0 ≡ get_or ev i 0) → events_of n ev' ≡ events_of n ev
unfolding events_of
events-same zero ev ev' h = refl
events-same (suc n) ev ev' h =
    let r : events_of n ev' ≡ events_of n ev = events-same n ev ev' (λ i lt. h i (omega arith)) in
    rw (r, h (n * event_words) (omega arith), h (n * event_words + 1) (omega arith), h (n * event_words + 2) (omega arith))

-- one more record, word by word
abbrev pub stored : List ℕ → ℕ → ℕ → ℕ → ℕ → List ℕ
stored ev at a b c = set (set (set ev at a) (at + 1) b) (at + 2) c

module _ (ev : List ℕ) (n a b c : ℕ) (room : n * event_words + 3 ≤ length ev) where
  abbrev one : List ℕ
  one = set ev (n * event_words) a

  abbrev two : List ℕ
  two = set one (n * event_words + 1) b

  other : (i : ℕ) → i < n * event_words → get_or (stored ev (n * event_words) a b c) i 0 ≡ get_or ev i 0
  other i lt =
      get_or-set_other two (n * event_words + 2) i c 0 (λ (e : i ≡ n * event_words + 2). omega arith)
      ∙ get_or-set_other one (n * event_words + 1) i b 0 (λ (e : i ≡ n * event_words + 1). omega arith)
      ∙ get_or-set_other ev (n * event_words) i a 0 (λ (e : i ≡ n * event_words). omega arith)

  third : get_or (stored ev (n * event_words) a b c) (n * event_words + 2) 0 ≡ c
  third = get_or-set_same two (n * event_words + 2) c 0 (simp length-set (omega arith))

  second : get_or (stored ev (n * event_words) a b c) (n * event_words + 1) 0 ≡ b
  second =
      get_or-set_other two (n * event_words + 2) (n * event_words + 1) c 0 (λ (e : n * event_words + 1 ≡ n * event_words + 2). omega arith)
      ∙ get_or-set_same one (n * event_words + 1) b 0 (simp length-set (omega arith))

  first : get_or (stored ev (n * event_words) a b c) (n * event_words) 0 ≡ a
  first =
      get_or-set_other two (n * event_words + 2) (n * event_words) c 0 (λ (e : n * event_words ≡ n * event_words + 2). omega arith)
      ∙ get_or-set_other one (n * event_words + 1) (n * event_words) b 0 (λ (e : n * event_words ≡ n * event_words + 1). omega arith)
      ∙ get_or-set_same ev (n * event_words) a 0 (omega arith)

  pub events-kept : events_of n (stored ev (n * event_words) a b c) ≡ events_of n ev
  events-kept = events-same n ev (stored ev (n * event_words) a b c) other

  pub events-more : events_of (n + 1) (stored ev (n * event_words) a b c) ≡ events_of n ev ++ (record { offset = a; mark = b; label = c } ∷ [])
  unfolding events_of
  events-more =
      let r : events_of n (stored ev (n * event_words) a b c) ≡ events_of n ev = events-kept in
      rw (add-one, r, first, second, third)
