-- Tests joined by `&&`, `||` and `pick`: what they say, and how they come to be true; a test of all of a list, computed, read at one place.
-- Assumes nothing.
use mathlib.Core.Path.{◌≡◌, refl, sym}
use mathlib.Core.Bool.{Bool, true, false, ◌&&◌, ◌||◌, true≢false}
use mathlib.Core.List.{List, [], ◌∷◌}
use Prim.Native.Nat.{ℕ, zero, suc, ◌+◌, ◌<◌}
use native.Mathlib.Nat.{add-zero, zero-add, add-suc, suc-add, not-suc-le-zero, le_of_suc-le-suc}
use lib.ListN.{length, get_or}
use Rattle.choice.specs.Pick.{pick}

pub and-end : (p : Bool) → p && true ≡ p
and-end true = refl
and-end false = refl

pub and-false : (p : Bool) → p && false ≡ false
and-false true = refl
and-false false = refl

pub and-true : (p q : Bool) → p && q ≡ true → (p ≡ true) × (q ≡ true)
and-true true q e = (refl, e)
and-true false q e = absurd (true≢false (sym e))

pub true-and : (p q : Bool) → p ≡ true → q ≡ true → p && q ≡ true
true-and p q e f = rw (e, f)

-- `p || q` says that q holds where p doesn't
pub or-true : (p q : Bool) → p || q ≡ true → p ≡ false → q ≡ true
or-true true q e f = absurd (true≢false f)
or-true false q e f = e

pub true-or : (p q : Bool) → (p ≡ false → q ≡ true) → p || q ≡ true
true-or true q f = refl
true-or false q f = f refl

-- a choice between 0 and an answer that is not 0
pub passed : (p : Bool) (x y : ℕ) → (y ≡ 0 → ⊥) → pick p x y ≡ 0 → (p ≡ true) × (x ≡ 0)
passed true x y h e = (refl, e)
passed false x y h e = absurd (h e)

pub passes : (p : Bool) (x y : ℕ) → p ≡ true → x ≡ 0 → pick p x y ≡ 0
passes p x y e f = rw (e, f)

-- a test of all of a list, by place and element
abbrev pub all : {A : Type 0} → (ℕ → A → Bool) → ℕ → List A → Bool
all f i [] = true
all f i (x ∷ xs) = f i x && all f (suc i) xs

all_from : {A : Type 0} (f : ℕ → A → Bool) (i : ℕ) (xs : List A) (d : A) → all f i xs ≡ true → (k : ℕ) → k < length xs → f (i + k) (get_or xs k d) ≡ true
all_from f i [] d e k h = absurd (not-suc-le-zero h)
all_from f i (x ∷ xs) d e zero h = rw add-zero (and-true (f i x) (all f (suc i) xs) e).0
all_from f i (x ∷ xs) d e (suc k) h = rw (add-suc, ← suc-add) (all_from f (suc i) xs d (and-true (f i x) (all f (suc i) xs) e).1 k (le_of_suc-le-suc h))

pub all_at : {A : Type 0} (f : ℕ → A → Bool) (xs : List A) (d : A) → all f 0 xs ≡ true → (k : ℕ) → k < length xs → f k (get_or xs k d) ≡ true
all_at f xs d e k h = rw zero-add at (all_from f 0 xs d e k h)
