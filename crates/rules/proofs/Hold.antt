-- The laws hold of the layout rules themselves: runs of two trees whose documents differ by one law at one place report alike.
-- Assumes nothing.
use Prim.Native.Nat.{ℕ}
use mathlib.Core.Path.{◌≡◌, refl, ap₂, subst}
use mathlib.Core.Bool.{true}
use mathlib.Core.List.{[]}
use Rattle.table.specs.Unfold.{Tree}
use Rattle.table.specs.Document.{doc}
use Rattle.rules.specs.Layout.{Limits, blank, broken, Refusal, steps, bytes, events, Outcome, refused, report, lay, layout}
use Rattle.rules.specs.Law.{Differ, Unrefused, Alike}
use Rattle.rules.proofs.Meaning.{Result, Meaning, mean}
use Rattle.rules.proofs.Laws.{differ}
use Rattle.rules.proofs.Bridge.{Meets, is-done, is-failed, is-refused, after, lay_meets}

refuses : {A : Type 0} (w : Refusal) (n s : ℕ) → Unrefused (report (refused w n s)) → A
refuses (steps d) n s u = absurd (u.for-steps refl)
refuses bytes n s u = absurd (u.for-bytes refl)
refuses events n s u = absurd (u.for-events refl)

-- two runs that are not refused and mean the same report alike
agree : {x y : Outcome} {r : Result} → Meets x r → Meets y r → Unrefused (report x) → Unrefused (report y) → Alike (report x) (report y)
agree is-done is-done u v = record { answers = refl; bytes = refl; events = refl }
agree is-done (is-refused {w = w} {n = n} {s = s}) u v = refuses w n s v
agree is-failed is-failed u v = record { answers = refl; bytes = refl; events = refl }
agree is-failed (is-refused {w = w} {n = n} {s = s}) u v = refuses w n s v
agree (is-refused {w = w} {n = n} {s = s}) b u v = refuses w n s u

-- how a document is laid at a width, from the start
meant : ℕ → Meaning → Result
meant w x = x.lays w 0 broken (λ _. true) (λ i. i) blank

run_meets : (L : Limits) (t : Tree) → Meets (lay L t 0 broken [] blank 0) (meant L.width (mean (doc t)))
unfolding meant after
run_meets L t = lay_meets L t 0 broken [] _ 0

-- runs of any two trees that mean the same, with any limits at one width
pub meanings-hold : (L L' : Limits) (t u : Tree) → L.width ≡ L'.width → mean (doc t) ≡ mean (doc u) → Unrefused (layout L t) → Unrefused (layout L' u) → Alike (layout L t) (layout L' u)
unfolding layout
meanings-hold L L' t u e d = agree (subst (Meets _) (ap₂ meant e d) (run_meets L t)) (run_meets L' u)

pub laws-hold : (L L' : Limits) (t u : Tree) → L.width ≡ L'.width → Differ (doc t) (doc u) → Unrefused (layout L t) → Unrefused (layout L' u) → Alike (layout L t) (layout L' u)
laws-hold L L' t u e d = meanings-hold L L' t u e (differ d)
