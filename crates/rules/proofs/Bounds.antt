-- A run keeps within its limits, however it ends: the steps, the bytes and the events that it may use, and the steps and place of each refusal.
-- Assumes nothing.
use Prim.Native.Nat.{ℕ, ◌+◌, ◌≤◌}
use native.Mathlib.Omega.{arith}
use mathlib.Core.Path.{◌≡◌, refl, subst⁻¹}
use mathlib.Core.Bool.{Bool, true, false}
use mathlib.Core.List.{List, [], ◌∷◌}
use lib.Dec.{leb, ltb, eqb}
use lib.ListN.{length, length-append}
use borrow.Author.Tests.{leb-true, ltb-true, eqb-true, eqb-false}
use Rattle.table.specs.Unfold.{Tree, nil, append, group, flat_alt, nest, hardline, text, annotated, union, align, fail}
use Rattle.rules.specs.Layout.{Limits, Page, Mode, flat, broken, Entry, Due, other, steps, bytes, events, Outcome, done, failed, refused, Fit, says, spent, nested, also, and_then, try, chosen, visit, look, fit, rest, step, put, event, lay, taken, marked}

module _ (L : Limits) where
  -- a page within the room for bytes and for events
  pub record InRoom (p : Page) : Type 0 where
    pub in_bytes : taken p ≤ L.room
    pub in-events : length p.events ≤ L.slots

  -- how a run may end
  pub data Bounded : Outcome → Type 0 where
    done-within : {p : Page} {o : Bool} {s : ℕ} → InRoom p → s ≤ L.limit → Bounded (done p o s)
    failed-within : {s : ℕ} → s ≤ L.limit → Bounded (failed s)
    at-limit : {d : Due} {n : ℕ} → Bounded (refused (steps d) n L.limit)
    no_bytes : {s : ℕ} → s ≤ L.limit → Bounded (refused bytes 0 s)
    no-event : {n s : ℕ} → s ≤ L.limit → Bounded (refused events n s)

  data FitBounded : Fit → Type 0 where
    said : {b : Bool} {s : ℕ} → s ≤ L.limit → FitBounded (says b s)
    stopped : {n : ℕ} → FitBounded (spent n L.limit)

  -- ---- one thing after another

  also_bounded : (o : Bool) {x : Outcome} → Bounded x → Bounded (also o x)
  also_bounded o (done-within r h) = done-within r h
  also_bounded o (failed-within h) = failed-within h
  also_bounded o at-limit = at-limit
  also_bounded o (no_bytes h) = no_bytes h
  also_bounded o (no-event h) = no-event h

  then_bounded : {x : Outcome} {f : Page → ℕ → Outcome} → Bounded x → ((p : Page) (s : ℕ) → InRoom p → s ≤ L.limit → Bounded (f p s)) → Bounded (and_then x f)
  then_bounded (done-within {p = p} {o = o} {s = s} r h) k = also_bounded o (k p s r h)
  then_bounded (failed-within h) k = failed-within h
  then_bounded at-limit k = at-limit
  then_bounded (no_bytes h) k = no_bytes h
  then_bounded (no-event h) k = no-event h

  try_bounded : {x : Outcome} {f : ℕ → Outcome} → Bounded x → ((s : ℕ) → s ≤ L.limit → Bounded (f s)) → Bounded (try x f)
  try_bounded (done-within {o = true} {s = s} r h) k = k s h
  try_bounded (done-within {o = false} r h) k = done-within r h
  try_bounded (failed-within {s} h) k = k s h
  try_bounded at-limit k = at-limit
  try_bounded (no_bytes h) k = no_bytes h
  try_bounded (no-event h) k = no-event h

  chosen_bounded : {x : Fit} {f : Mode → ℕ → Outcome} → FitBounded x → ((m : Mode) (s : ℕ) → s ≤ L.limit → Bounded (f m s)) → Bounded (chosen x f)
  chosen_bounded (said {b = true} {s = s} h) k = k flat s h
  chosen_bounded (said {b = false} {s = s} h) k = k broken s h
  chosen_bounded stopped k = at-limit

  -- a visit stops at the limit or goes on within it
  visit_bounded : {R : Type 0} (P : R → Type 0) (stop : ℕ → R) (s : ℕ) {go : ℕ → R} → s ≤ L.limit → P (stop L.limit) → ((s : ℕ) → s ≤ L.limit → P (go s)) → P (visit L (stop s) s go)
  unfolding visit
  visit_bounded P stop s {go} h at k = by (eqb s L.limit) refl
    where
      by : (b : Bool) → eqb s L.limit ≡ b → P (elim b [ true ↦ stop s | false ↦ go (s + 1) ])
      by true e = subst⁻¹ (λ n. P (stop n)) (eqb-true s L.limit e) at
      by false e = k (s + 1) (omega (arith, eqb-false s L.limit e))

  look_bounded : (n s : ℕ) {go : ℕ → Fit} → s ≤ L.limit → ((s : ℕ) → s ≤ L.limit → FitBounded (go s)) → FitBounded (look L n s go)
  look_bounded n s h k = visit_bounded FitBounded (spent n) s h stopped k

  due_bounded : (d : Due) (n s : ℕ) {go : ℕ → Outcome} → s ≤ L.limit → ((s : ℕ) → s ≤ L.limit → Bounded (go s)) → Bounded (visit L (refused (steps d) n s) s go)
  due_bounded d n s h k = visit_bounded Bounded (refused (steps d) n) s h at-limit k

  step_bounded : (n s : ℕ) {go : ℕ → Outcome} → s ≤ L.limit → ((s : ℕ) → s ≤ L.limit → Bounded (go s)) → Bounded (step L n s go)
  step_bounded n s h k = due_bounded other n s h k

  -- ---- the fit test

  fit_bounded : (t : Tree) (m : Mode) (k : ℕ → ℕ → Fit) → ((c s : ℕ) → s ≤ L.limit → FitBounded (k c s)) → (c s : ℕ) → s ≤ L.limit → FitBounded (fit L t m k c s)
  unfolding fit
  fit_bounded (nil n) m k e c s h = look_bounded n s h (λ s h. e c s h)
  fit_bounded (append n a b) m k e c s h = look_bounded n s h (λ s h. fit_bounded a m _ (fit_bounded b m k e) c s h)
  fit_bounded (group n a) m k e c s h = look_bounded n s h (λ s h. fit_bounded a m k e c s h)
  fit_bounded (flat_alt n a b) flat k e c s h = look_bounded n s h (λ s h. fit_bounded b flat k e c s h)
  fit_bounded (flat_alt n a b) broken k e c s h = look_bounded n s h (λ s h. fit_bounded a broken k e c s h)
  fit_bounded (nest n a d way) m k e c s h = look_bounded n s h (λ s h. fit_bounded a m k e c s h)
  fit_bounded (hardline n) flat k e c s h = look_bounded n s h (λ s h. said h)
  fit_bounded (hardline n) broken k e c s h = look_bounded n s h (λ s h. said h)
  fit_bounded (text n bs cols) m k e c s h = look_bounded n s h (by (leb (c + cols) L.width))
    where
      by : (b : Bool) (s : ℕ) → s ≤ L.limit → FitBounded (elim b [ true ↦ k (c + cols) s | false ↦ says false s ])
      by true s h = e (c + cols) s h
      by false s h = said h
  fit_bounded (annotated n a l) m k e c s h = look_bounded n s h (λ s h. fit_bounded a m k e c s h)
  fit_bounded (union n a b) m k e c s h = look_bounded n s h (λ s h. fit_bounded b m k e c s h)
  fit_bounded (align n a) m k e c s h = look_bounded n s h (λ s h. fit_bounded a m k e c s h)
  fit_bounded (fail n) m k e c s h = look_bounded n s h (λ s h. said h)

  rest_bounded : (ws : List Entry) (c s : ℕ) → s ≤ L.limit → FitBounded (rest L ws c s)
  unfolding rest
  rest_bounded [] c s h = said h
  rest_bounded (w ∷ ws) c s h = fit_bounded w.what broken (rest L ws) (rest_bounded ws) c s h

  -- ---- layout

  put_bounded : (p : Page) (past : Bool) (s : ℕ) → length p.events ≤ L.slots → s ≤ L.limit → Bounded (put L p past s)
  unfolding put
  put_bounded p past s r h = by (leb (taken p) L.room) refl
    where
      by : (b : Bool) → leb (taken p) L.room ≡ b → Bounded (elim b [ true ↦ done p past s | false ↦ refused bytes 0 s ])
      by true e = done-within (record { in_bytes = leb-true _ _ e; in-events = r }) h
      by false e = no_bytes h

  event_bounded : (n mark label : ℕ) (p : Page) (s : ℕ) → InRoom p → s ≤ L.limit → Bounded (event L n mark label p s)
  unfolding event
  event_bounded n mark label p s r h = by (ltb (length p.events) L.slots) refl
    where
      by : (b : Bool) → ltb (length p.events) L.slots ≡ b → Bounded (elim b [ true ↦ done (marked mark label p) false s | false ↦ refused events n s ])
      by true e = done-within {p = marked mark label p} (record { in_bytes = r.in_bytes; in-events = simp length-append (omega (arith, ltb-true (length p.events) L.slots e)) }) h
      by false e = no-event h

  pub lay_bounded : (t : Tree) (i : ℕ) (m : Mode) (ws : List Entry) (p : Page) (s : ℕ) → InRoom p → s ≤ L.limit → Bounded (lay L t i m ws p s)
  unfolding lay
  lay_bounded (nil n) i m ws p s r h = step_bounded n s h (λ s h. done-within r h)
  lay_bounded (append n a b) i m ws p s r h =
      step_bounded n s h (λ s h. then_bounded (lay_bounded a i m (record { what = b; ind = i } ∷ ws) p s r h) (λ p s r h. lay_bounded b i m ws p s r h))
  lay_bounded (group n a) i flat ws p s r h = step_bounded n s h (λ s h. lay_bounded a i flat ws p s r h)
  lay_bounded (group n a) i broken ws p s r h =
      due_bounded _ n s h (λ s h. chosen_bounded (fit_bounded a flat (rest L ws) (rest_bounded ws) p.column s h) (λ m s h. lay_bounded a i m ws p s r h))
  lay_bounded (flat_alt n a b) i flat ws p s r h = step_bounded n s h (λ s h. lay_bounded b i flat ws p s r h)
  lay_bounded (flat_alt n a b) i broken ws p s r h = step_bounded n s h (λ s h. lay_bounded a i broken ws p s r h)
  lay_bounded (nest n a k way) i m ws p s r h = step_bounded n s h (λ s h. lay_bounded a (nested way k i) m ws p s r h)
  lay_bounded (hardline n) i m ws p s r h = step_bounded n s h (λ s h. put_bounded _ _ s r.in-events h)
  lay_bounded (text n bs cols) i m ws p s r h = step_bounded n s h (λ s h. put_bounded _ _ s r.in-events h)
  lay_bounded (annotated n a l) i m ws p s r h =
      step_bounded n s h
      (λ s h. then_bounded (event_bounded n 1 l p s r h) (λ p s r h. then_bounded (lay_bounded a i m ws p s r h) (λ p s r h. event_bounded n 0 l p s r h)))
  lay_bounded (union n a b) i m ws p s r h =
      step_bounded n s h (λ s h. try_bounded (lay_bounded a i m ws p s r h) (λ s h. lay_bounded b i m ws p s r h))
  lay_bounded (align n a) i m ws p s r h = step_bounded n s h (λ s h. lay_bounded a p.column m ws p s r h)
  lay_bounded (fail n) i m ws p s r h = step_bounded n s h (λ s h. failed-within h)
