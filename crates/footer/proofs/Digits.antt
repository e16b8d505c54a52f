-- The room that a number's digits take.
--     number_fits              64 bytes have room for a sentence with a number in it
-- Assumes nothing.
use Prim.Native.Nat.{ℕ, zero, suc, ◌+◌, ◌/◌, ◌%◌, ◌≤◌}
use native.Mathlib.Omega.{arith}
use mathlib.Core.Path.{◌≡◌}
use mathlib.Core.Bool.{Bool, true, false}
use mathlib.Core.List.{List, [], ◌∷◌, ◌++◌}
use lib.ListN.{length, take, length-append}
use lib.Seq.{take_all}
use lib.Dec.{eqb}
use Rattle.choice.specs.Pick.{pick}
use Rattle.append.specs.Decimal.{digits_on, decimal}

few-digits : (room n : ℕ) (behind : List ℕ) → length (digits_on room n behind) ≤ room + length behind
unfolding digits_on
few-digits zero n behind = omega arith
few-digits (suc room) n behind = go (eqb (n / 10) 0) (few-digits room (n / 10) ((48 + n % 10) ∷ behind))
  where
    go : (q : Bool) → length (digits_on room (n / 10) ((48 + n % 10) ∷ behind)) ≤ room + suc (length behind) → length (pick q ((48 + n % 10) ∷ behind) (digits_on room (n / 10) ((48 + n % 10) ∷ behind))) ≤ suc room + length behind
    go true h = omega arith
    go false h = omega arith

pub number_fits : (n : ℕ) (a b : List ℕ) → length a + length b ≤ 44 → take 64 (a ++ decimal n ++ b) ≡ a ++ decimal n ++ b
number_fits n a b h = take_all 64 (a ++ decimal n ++ b) (simp length-append (omega (arith, few-digits 20 n [])))
