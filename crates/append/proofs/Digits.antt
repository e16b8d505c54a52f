-- The laws of a number's digits.
--     digit-.., no-digits      from the last to the first
-- Assumes nothing.
use Prim.Native.Nat.{ℕ, zero, suc, ◌+◌, ◌-◌, ◌/◌, ◌%◌, ◌≤◌, ◌<◌}
use native.Mathlib.Omega.{arith}
use mathlib.Core.Path.{◌≡◌, refl, ap, ap₂, ◌∙◌}
use mathlib.Core.List.{List, ◌∷◌}
use lib.ListN.{length, drop, set, length-set}
use lib.Seq.{drop-cons, drop-set-lt, get_or-set_same}
use borrow.Author.Tests.{eq-eqb, ne_eqb}
use Rattle.append.specs.Decimal.{digits_on}

-- a digit stored before those that stand
pub digit-here : (out : List ℕ) (at v : ℕ) → 0 < at → at ≤ length out → drop (at - 1) (set out (at - 1) v) ≡ v ∷ drop at out
digit-here out at v some h =
    let k = at - 1 in
    let next : suc k ≡ at = omega arith in
    drop-cons (set out k v) k 0 (simp length-set (omega arith))
    ∙ ap₂ (λ (a : ℕ) (l : List ℕ). a ∷ l) (get_or-set_same out k v 0 (omega arith)) (drop-set-lt (suc k) out k v (omega arith) ∙ ap (λ (n : ℕ). drop n out) next)

pub no-digits : (room n : ℕ) (behind : List ℕ) → room ≤ 0 → behind ≡ digits_on room n behind
unfolding digits_on
no-digits zero n behind h = refl
no-digits (suc room) n behind h = absurd (omega arith)

pub digit_last : (room n : ℕ) (behind : List ℕ) → 0 < room → n / 10 ≡ 0 → digits_on room n behind ≡ (48 + n % 10) ∷ behind
unfolding digits_on
digit_last zero n behind h e = absurd (omega arith)
digit_last (suc room) n behind h e = rw (eq-eqb (n / 10) 0 e)

pub digit-more : (room n : ℕ) (behind : List ℕ) → 0 < room → (n / 10 ≡ 0 → ⊥) → digits_on room n behind ≡ digits_on (room - 1) (n / 10) ((48 + n % 10) ∷ behind)
unfolding digits_on
digit-more zero n behind h e = absurd (omega arith)
digit-more (suc room) n behind h e =
    let less : suc room - 1 ≡ room = omega arith in
    rw (less, ne_eqb (n / 10) 0 e)
