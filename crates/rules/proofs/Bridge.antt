-- Where a run is not refused it ends as its document means.
-- Assumes nothing.
use Prim.Native.Nat.{ℕ, ◌+◌}
use mathlib.Core.Bool.{Bool, true, false, ◌&&◌}
use mathlib.Core.List.{List, [], ◌∷◌}
use lib.Dec.{leb, ltb, eqb}
use lib.ListN.{length}
use Rattle.table.specs.Unfold.{Tree, nil, append, group, flat_alt, nest, hardline, text, annotated, union, align, fail}
use Rattle.rules.specs.Layout.{Limits, Page, Mode, flat, broken, mode_if, Entry, Refusal, bytes, events, Outcome, done, failed, refused, Fit, says, spent, next, also, and_then, try, chosen, visit, look, fit, rest, step, put, event, lay, taken, marked}
use Rattle.table.specs.Document.{doc}
use Rattle.rules.proofs.Meaning.{Result, laid, fail-met, also_r, then_r, try_r, mean}

-- a fit test that was not stopped says what is meant
data FitMeets : Fit → Bool → Type 0 where
  said : {b : Bool} {s : ℕ} → FitMeets (says b s) b
  stopped : {n s : ℕ} {b : Bool} → FitMeets (spent n s) b

-- a run that was not refused ends as is meant
pub data Meets : Outcome → Result → Type 0 where
  is-done : {p : Page} {o : Bool} {s : ℕ} → Meets (done p o s) (laid p o)
  is-failed : {s : ℕ} → Meets (failed s) fail-met
  is-refused : {w : Refusal} {n s : ℕ} {r : Result} → Meets (refused w n s) r

also_meets : (o : Bool) {x : Outcome} {r : Result} → Meets x r → Meets (also o x) (also_r o r)
also_meets o is-done = is-done
also_meets o is-failed = is-failed
also_meets o is-refused = is-refused

then_meets_lem : {x : Outcome} {r : Result} {f : Page → ℕ → Outcome} {g : Page → Result} → Meets x r → ((p : Page) (s : ℕ) → Meets (f p s) (g p)) → Meets (and_then x f) (then_r r g)
then_meets_lem (is-done {p = p} {o = o} {s = s}) h = also_meets o (h p s)
then_meets_lem is-failed h = is-failed
then_meets_lem is-refused h = is-refused

try_meets : {x : Outcome} {r : Result} {f : ℕ → Outcome} {r' : Result} → Meets x r → ((s : ℕ) → Meets (f s) r') → Meets (try x f) (try_r r r')
try_meets (is-done {o = true} {s = s}) h = h s
try_meets (is-done {o = false}) h = is-done
try_meets (is-failed {s}) h = h s
try_meets is-refused h = is-refused

chosen_meets : {x : Fit} {b : Bool} {f : Mode → ℕ → Outcome} {g : Mode → Result} → FitMeets x b → ((m : Mode) (s : ℕ) → Meets (f m s) (g m)) → Meets (chosen x f) (g (mode_if b))
chosen_meets (said {b = true} {s = s}) h = h flat s
chosen_meets (said {b = false} {s = s}) h = h broken s
chosen_meets stopped h = is-refused

module _ (L : Limits) where
  -- what holds of a stop and of going on holds of a visit
  visit-is : {R S : Type 0} (P : R → S → Type 0) {stop : R} {r : S} (s : ℕ) {go : ℕ → R} → P stop r → ((s : ℕ) → P (go s) r) → P (visit L stop s go) r
  unfolding visit
  visit-is P {stop} {r} s {go} h k = by (eqb s L.limit)
    where
      by : (b : Bool) → P (elim b [ true ↦ stop | false ↦ go (s + 1) ]) r
      by true = h
      by false = k (s + 1)

  look_is : (n : ℕ) {b : Bool} (s : ℕ) {go : ℕ → Fit} → ((s : ℕ) → FitMeets (go s) b) → FitMeets (look L n s go) b
  look_is n s k = visit-is FitMeets s stopped k

  step_is : (n : ℕ) {r : Result} (s : ℕ) {go : ℕ → Outcome} → ((s : ℕ) → Meets (go s) r) → Meets (step L n s go) r
  step_is n s k = visit-is Meets s is-refused k

  fit_meets : (t : Tree) (m : Mode) (k : ℕ → ℕ → Fit) (r : ℕ → Bool) → ((c s : ℕ) → FitMeets (k c s) (r c)) → (c s : ℕ) → FitMeets (fit L t m k c s) ((mean (doc t)).reads L.width m r c)
  unfolding fit mean doc
  fit_meets (nil n) m k r h c s = look_is n s (λ s. h c s)
  fit_meets (append n a b) m k r h c s = look_is n s (λ s. fit_meets a m _ _ (fit_meets b m k r h) c s)
  fit_meets (group n a) m k r h c s = look_is n s (λ s. fit_meets a m k r h c s)
  fit_meets (flat_alt n a b) flat k r h c s = look_is n s (λ s. fit_meets b flat k r h c s)
  fit_meets (flat_alt n a b) broken k r h c s = look_is n s (λ s. fit_meets a broken k r h c s)
  fit_meets (nest n a d way) m k r h c s = look_is n s (λ s. fit_meets a m k r h c s)
  fit_meets (hardline n) flat k r h c s = look_is n s (λ s. said)
  fit_meets (hardline n) broken k r h c s = look_is n s (λ s. said)
  fit_meets (text n bs cols) m k r h c s = look_is n s (λ s. by (leb (c + cols) L.width) s)
    where
      by : (b : Bool) (s : ℕ) → FitMeets (elim b [ true ↦ k (c + cols) s | false ↦ says false s ]) (b && r (c + cols))
      by true s = h (c + cols) s
      by false s = said
  fit_meets (annotated n a l) m k r h c s = look_is n s (λ s. fit_meets a m k r h c s)
  fit_meets (union n a b) m k r h c s = look_is n s (λ s. fit_meets b m k r h c s)
  fit_meets (align n a) m k r h c s = look_is n s (λ s. fit_meets a m k r h c s)
  fit_meets (fail n) m k r h c s = look_is n s (λ s. said)

  -- what the fit test says of the waiting nodes
  unfoldable pub after : List Entry → ℕ → Bool
  after [] c = true
  after (w ∷ ws) c = (mean (doc w.what)).reads L.width broken (after ws) c

  rest_meets : (ws : List Entry) (c s : ℕ) → FitMeets (rest L ws c s) (after ws c)
  unfolding rest after
  rest_meets [] c s = said
  rest_meets (w ∷ ws) c s = fit_meets w.what broken (rest L ws) (after ws) (rest_meets ws) c s

  put_meets : (p : Page) (past : Bool) (s : ℕ) → Meets (put L p past s) (laid p past)
  unfolding put
  put_meets p past s = by (leb (taken p) L.room)
    where
      by : (b : Bool) → Meets (elim b [ true ↦ done p past s | false ↦ refused bytes 0 s ]) (laid p past)
      by true = is-done
      by false = is-refused

  event_meets : (n mark label : ℕ) (p : Page) (s : ℕ) → Meets (event L n mark label p s) (laid (marked mark label p) false)
  unfolding event
  event_meets n mark label p s = by (ltb (length p.events) L.slots)
    where
      by : (b : Bool) → Meets (elim b [ true ↦ done (marked mark label p) false s | false ↦ refused events n s ]) (laid (marked mark label p) false)
      by true = is-done
      by false = is-refused

  pub lay_meets : (t : Tree) (i : ℕ) (m : Mode) (ws : List Entry) (p : Page) (s : ℕ) → Meets (lay L t i m ws p s) ((mean (doc t)).lays L.width i m (after ws) (next ws) p)
  unfolding lay mean doc after
  lay_meets (nil n) i m ws p s = step_is n s (λ s. is-done)
  lay_meets (append n a b) i m ws p s =
      step_is n s (λ s. then_meets_lem (lay_meets a i m (record { what = b; ind = i } ∷ ws) p s) (λ p s. lay_meets b i m ws p s))
  lay_meets (group n a) i flat ws p s = step_is n s (λ s. lay_meets a i flat ws p s)
  lay_meets (group n a) i broken ws p s =
      visit-is Meets s is-refused (λ s. chosen_meets {g = λ m. (mean (doc a)).lays L.width i m (after ws) (next ws) p} (fit_meets a flat (rest L ws) (after ws) (rest_meets ws) p.column s) (λ m s. lay_meets a i m ws p s))
  lay_meets (flat_alt n a b) i flat ws p s = step_is n s (λ s. lay_meets b i flat ws p s)
  lay_meets (flat_alt n a b) i broken ws p s = step_is n s (λ s. lay_meets a i broken ws p s)
  lay_meets (nest n a k way) i m ws p s = step_is n s (λ s. lay_meets a _ m ws p s)
  lay_meets (hardline n) i m ws p s = step_is n s (λ s. put_meets _ _ s)
  lay_meets (text n bs cols) i m ws p s = step_is n s (λ s. put_meets _ _ s)
  lay_meets (annotated n a l) i m ws p s =
      step_is n s (λ s. then_meets_lem (event_meets n 1 l p s) (λ p s. then_meets_lem (lay_meets a i m ws p s) (λ p s. event_meets n 0 l p s)))
  lay_meets (union n a b) i m ws p s = step_is n s (λ s. try_meets (lay_meets a i m ws p s) (λ s. lay_meets b i m ws p s))
  lay_meets (align n a) i m ws p s = step_is n s (λ s. lay_meets a _ m ws p s)
  lay_meets (fail n) i m ws p s = step_is n s (λ s. is-failed)
