-- The numbers of labels: no two labels of a row have the same, so the number tells the label.
-- Assumes nothing.
use Prim.Native.Nat.{ℕ}
use mathlib.Core.Path.{◌≡◌, refl, sym, ap, ◌∙◌}
use mathlib.Core.List.{List, [], ◌∷◌}
use lib.ListN.{get_or}
use Rattle.std.specs.Prelude.{Option, Some, None}
use Rattle.results.specs.Marks.{label_number}
use Rattle.results.specs.declared.tolerance.Mark.{Mark}
use Rattle.results.specs.declared.tolerance.Mark.TheVariants.{Force, Pluck, Both}

abbrev all : List (Option Mark)
all = None ∷ Some Force ∷ Some Pluck ∷ Some Both ∷ []

-- the label with this number
abbrev with_number : ℕ → Option Mark
with_number n = get_or all n None

number_back : (label : Option Mark) → with_number (label_number label) ≡ label
number_back None = refl
number_back (Some Force) = refl
number_back (Some Pluck) = refl
number_back (Some Both) = refl

pub label_number-injective : (label other : Option Mark) → label_number label ≡ label_number other → label ≡ other
label_number-injective label other e = sym (number_back label) ∙ ap with_number e ∙ number_back other
