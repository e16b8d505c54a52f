-- The numbers of refusals: each is from 1 to 9, and no two are the same; so what validation tells is told by one answer only.
-- Assumes nothing.
use Prim.Native.Nat.{ℕ, ◌-◌, ◌≤◌, ◌<◌}
use native.Mathlib.Omega.{arith}
use mathlib.Core.Path.{◌≡◌, refl, sym, ap, ◌∙◌}
use mathlib.Core.List.{List, [], ◌∷◌}
use lib.ListN.{get_or}
use Rattle.table.specs.declared.refusal.Refusal.{Refusal}
use Rattle.table.specs.declared.refusal.Refusal.TheVariants.{BadSize, BadKind, BadChild, BadRange, BadText, FailMet, NoSteps, NoOutput, NoEvents}
use Rattle.std.specs.Prelude.{Result, Ok, Err, ⊤}
use Rattle.table.specs.Fault.{Fault}
use Rattle.table.specs.Parts.{told}
use Rattle.table.specs.Refusal.{number}
use Rattle.table.specs.declared.Fault.{Fault as Told}

pub number-positive : (why : Refusal) → 0 < number why
number-positive BadSize = omega arith
number-positive BadKind = omega arith
number-positive BadChild = omega arith
number-positive BadRange = omega arith
number-positive BadText = omega arith
number-positive FailMet = omega arith
number-positive NoSteps = omega arith
number-positive NoOutput = omega arith
number-positive NoEvents = omega arith

pub number_not-zero : (why : Refusal) → number why ≡ 0 → ⊥
number_not-zero why e = let p = number-positive why in omega arith

pub number_at-most-9 : (why : Refusal) → number why ≤ 9
number_at-most-9 BadSize = omega arith
number_at-most-9 BadKind = omega arith
number_at-most-9 BadChild = omega arith
number_at-most-9 BadRange = omega arith
number_at-most-9 BadText = omega arith
number_at-most-9 FailMet = omega arith
number_at-most-9 NoSteps = omega arith
number_at-most-9 NoOutput = omega arith
number_at-most-9 NoEvents = omega arith

abbrev all : List Refusal
all = BadSize ∷ BadKind ∷ BadChild ∷ BadRange ∷ BadText ∷ FailMet ∷ NoSteps ∷ NoOutput ∷ NoEvents ∷ []

-- the refusal with this number
abbrev with_number : ℕ → Refusal
with_number n = get_or all (n - 1) BadSize

number_back : (why : Refusal) → with_number (number why) ≡ why
number_back BadSize = refl
number_back BadKind = refl
number_back BadChild = refl
number_back BadRange = refl
number_back BadText = refl
number_back FailMet = refl
number_back NoSteps = refl
number_back NoOutput = refl
number_back NoEvents = refl

pub number-injective : (why other : Refusal) → number why ≡ number other → why ≡ other
number-injective why other e = sym (number_back why) ∙ ap with_number e ∙ number_back other

-- two answers of validation that tell the same fault are equal
pub told-injective : (r r' : Result ⊤ Told) → told r ≡ told r' → r ≡ r'
told-injective (Ok valid) (Ok valid') e = refl
told-injective (Ok valid) (Err f) e = absurd (number_not-zero f.why (sym (ap (λ (g : Fault). g.answer) e)))
told-injective (Err f) (Ok valid) e = absurd (number_not-zero f.why (ap (λ (g : Fault). g.answer) e))
told-injective (Err f) (Err f') e =
    let why : f.why ≡ f'.why = number-injective f.why f'.why (ap (λ (g : Fault). g.answer) e) in
    let place : f.place.0 ≡ f'.place.0 = ap (λ (g : Fault). g.place) e in
    λ i. Err (record { why = why i; place = record { 0 = place i } })
