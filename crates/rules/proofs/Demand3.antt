-- Demand 3: two valid tables that unfold to documents differing by one listed law at one place, at one width and over the same text, get the same
-- answer, and when laid out the same bytes and events, provided neither is refused for sizes, steps or room.
-- The tables may be numbered and shared in any way, and each call has its own buffers and limits. specs/Law.antt says what the words mean;
-- Examples.antt has a pair of tables for each law.
-- Assumes nothing.
use mathlib.Core.Path.{◌≡◌, refl, subst⁻¹}
use mathlib.Core.Bool.{Bool, true, false}
use Rattle.choice.specs.Pick.{pick}
use Rattle.table.specs.Fault.{Fault, none, check}
use Rattle.table.specs.Unfold.{tree, root}
use Rattle.table.specs.Valid.{Valid}
use Rattle.rules.specs.Layout.{Report, layout}
use Rattle.rules.specs.Call.{Given, buffers_right, limits, refusal, unless_fault, call}
use Rattle.rules.specs.Law.{Differ, document, Unrefused, Alike}
use Rattle.table.proofs.Accept.{zero_if-valid}
use Rattle.rules.proofs.Hold.{laws-hold}

-- a valid table that is not refused for sizes is run
runs : (g : Given) → Valid g.table g.text → Unrefused (call g) → call g ≡ layout (limits g) (tree g.table g.text (root g.table))
unfolding call
runs g v u = by (buffers_right g) (check g.table g.text) (zero_if-valid g.table g.text v) u.for-sizes
  where
    laid : Report
    laid = layout (limits g) (tree g.table g.text (root g.table))

    by : (b : Bool) (f : Fault) → f ≡ none → ((pick b (unless_fault f laid) (refusal 1 0)).answer ≡ 1 → ⊥) → pick b (unless_fault f laid) (refusal 1 0) ≡ laid
    by true f e n = subst⁻¹ (λ f. unless_fault f laid ≡ laid) e refl
    by false f e n = absurd (n refl)

-- that the text is the same is not used: documents hold the bytes of their texts
pub demand_3 : (g h : Given)
    → Valid g.table g.text → Valid h.table h.text
    → Differ (document g) (document h)
    → g.width ≡ h.width → g.text ≡ h.text
    → Unrefused (call g) → Unrefused (call h)
    → Alike (call g) (call h)
demand_3 g h v w d same_width_lem _ u u' =
    let p = runs g v u in
    let q = runs h w u' in
    rw (p, q) (laws-hold _ _ _ _ same_width_lem d (rw p at u) (rw q at u'))
