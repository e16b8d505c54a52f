-- Two outcomes that a constructor's promise allows are equal, and a block layout's too: its promise has the same form.
-- Assumes nothing.
use Prim.Native.Nat.{ℕ}
use mathlib.Core.Path.{◌≡◌, sym, ap, ◌∙◌}
use mathlib.Core.List.{List}
use Rattle.build.specs.Outcome.{Made, Outcome, outcome}

-- o is what the promise says of the counts, table, text and operands that were lent
pub unique : (o : Outcome) (r r' : Made) (table table' text text' : List ℕ) → outcome r table text ≡ o → outcome r' table' text' ≡ o
    → (r ≡ r') × (table ≡ table') × (text ≡ text')
unique o r r' table table' text text' p q =
    let e : outcome r table text ≡ outcome r' table' text' = p ∙ sym q in
    (ap (λ (u : Outcome). u.made) e, ap (λ (u : Outcome). u.table) e, ap (λ (u : Outcome). u.text) e)
