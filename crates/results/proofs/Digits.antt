-- The laws of numbers as a line writes them, over plain lists.
--     digit-.., digits-end          one digit more, and the end
--     number-..                     one to four of them
--     ten-.., number_small          how large a number gets
-- Assumes nothing.
use Prim.Native.Nat.{ℕ, suc, ◌+◌, ◌-◌, ◌*◌, ◌^◌, ◌≤◌, ◌<◌}
use native.Mathlib.Omega.{arith}
use native.Mathlib.Numerals.{add-one}
use native.Mathlib.Nat.{add-zero, add-suc, suc-add, pow-suc, pow-le-pow_right}
use mathlib.Core.Path.{◌≡◌, refl, sym, ap, ◌∙◌}
use mathlib.Core.Bool.{Bool, true, false, ◌&&◌}
use mathlib.Core.List.{List, [], ◌∷◌}
use lib.ListN.{length, get_or, drop}
use lib.Dec.{leb}
use borrow.Author.Tests.{leb-true, le-leb, lt-leb}
use Rattle.choice.specs.Pick.{pick}
use Rattle.std.specs.Prelude.{Option, Some, None}
use Rattle.choice.proofs.Tests.{and-true}
use Rattle.buffer.proofs.Reading.{more, done}
use Rattle.results.specs.Numbers.{digit, digits, number_of, Small}

module _ (n : ℕ) (s : List ℕ) (i : ℕ) (h : i < length s) where
  pub digit-next : digit (get_or s i 0) ≡ true → digits n (drop i s) ≡ digits (n * 10 + (get_or s i 0 - 48)) (drop (i + 1) s)
  unfolding digits
  digit-next e = rw (more s i h, e)

  pub digit-other : digit (get_or s i 0) ≡ false → digits n (drop i s) ≡ None
  unfolding digits
  digit-other e = rw (more s i h, e)

pub number_is : (s : List ℕ) → 0 < length s → length s ≤ 4 → number_of s ≡ digits 0 s
unfolding number_of
number_is s l u = rw (le-leb 1 (length s) l, le-leb (length s) 4 u)

pub number-empty : (s : List ℕ) → length s ≡ 0 → None ≡ number_of s
unfolding number_of
number-empty s e = rw (lt-leb 1 (length s) (omega arith))

pub number_long : (s : List ℕ) → 4 < length s → None ≡ number_of s
unfolding number_of
number_long s u = rw (le-leb 1 (length s) (omega arith), lt-leb (length s) 4 u)

pub digits-end : (n : ℕ) (s : List ℕ) (i : ℕ) → length s ≤ i → digits n (drop i s) ≡ Some n
unfolding digits
digits-end n s i h = rw (done s i h)

pub ten-more : (i n d : ℕ) → n < 10 ^ i → d ≤ 9 → n * 10 + d < 10 ^ (i + 1)
ten-more i n d h l = rw (add-one, pow-suc) (omega arith)

pub ten-small : (i n : ℕ) → n < 10 ^ i → i ≤ 3 → n < 1000
ten-small i n h l = let p : 10 ^ i ≤ 10 ^ 3 = pow-le-pow_right {n = 10} (omega arith) {i = i} {j = 3} l in omega arith

-- a number is below ten to the power of its digits
digits-small : (s : List ℕ) (n k v : ℕ) → n < 10 ^ k → digits n s ≡ Some v → v < 10 ^ (k + length s)
unfolding digits
digits-small [] n k v h e = let same : n ≡ v = cc in rw (add-zero, ← same) h
digits-small (b ∷ s) n k v h e = go (digit b) refl (λ m j l e. digits-small s m j v l e) e
  where
    go : (t : Bool) → digit b ≡ t → ((m j : ℕ) → m < 10 ^ j → digits m s ≡ Some v → v < 10 ^ (j + length s)) → pick t (digits (n * 10 + (b - 48)) s) None ≡ Some v → v < 10 ^ (k + suc (length s))
    go true t rest f =
        let p = and-true (leb 48 b) (leb b 57) t in
        let u = leb-true b 57 p.1 in
        let same : k + suc (length s) ≡ k + 1 + length s = add-suc k (length s) ∙ sym (suc-add k (length s)) ∙ ap (λ (m : ℕ). m + length s) (sym (add-one k)) in
        rw same (rest (n * 10 + (b - 48)) (k + 1) (ten-more k n (b - 48) h (omega arith)) f)
    go false t rest f = let z : ◌≡◌ {A = ℕ} 0 1 = cc in omega arith

pub number_small : (s : List ℕ) → Small (number_of s)
unfolding number_of
number_small s = go (number_of s) refl
  where
    below : (v : ℕ) (t : Bool) → (leb 1 (length s) && leb (length s) 4) ≡ t → pick t (digits 0 s) None ≡ Some v → v < 10000
    below v true t e =
        let u = leb-true (length s) 4 (and-true (leb 1 (length s)) (leb (length s) 4) t).1 in
        let p : 10 ^ (0 + length s) ≤ 10 ^ 4 = pow-le-pow_right {n = 10} (omega arith) {i = 0 + length s} {j = 4} (omega arith) in
        let q = digits-small s 0 0 v (omega arith) e in
        omega arith
    below v false t e = let z : ◌≡◌ {A = ℕ} 0 1 = cc in omega arith

    go : (a : Option ℕ) → number_of s ≡ a → Small a
    go None e = tt
    go (Some v) e = below v (leb 1 (length s) && leb (length s) 4) refl e
