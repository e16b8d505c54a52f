-- Where a run stops: its whole outcome is that of the rules, and what was due there is read off the last turn (request 2026-01).
--     reached-is     every state that a run comes through ends as the whole run ends
--     stop_is        a turn that stops: its report is the run's, and what was due is what the turn had on top
--     stops-is       the same where no node was due in layout
--     ended_is, visit-ended   the answer where the run ended before the visit, or a fit test's node was due
--     group-due, other-due    a Group met broken with no step left: the reason is that of its child, what waits and the column
-- Assumes nothing.
use Prim.Native.Nat.{ℕ, zero, suc, ◌+◌, ◌-◌, ◌*◌, ◌≤◌, ◌<◌}
use mathlib.Core.Path.{◌≡◌, refl, sym, ap, ap₂, subst, ◌∙◌}
use mathlib.Core.Bool.{Bool, true, false}
use mathlib.Core.List.{List, [], ◌∷◌}
use native.Mathlib.Omega.{arith}
use lib.ListN.{length}
use lib.Dec.{eqb}
use borrow.Author.Tests.{eqb-true}
use Rattle.table.specs.Node.{group, node_at}
use Rattle.table.specs.Unfold.{Tree, tree}
use Rattle.table.specs.Sound.{AllSound}
use Rattle.table.proofs.Unfolded.{tree-node}
use Rattle.choice.specs.Pick.{pick}
use Rattle.rules.specs.Layout.{Page, blank, Mode, broken, other, Outcome, done, failed, refused, report, lay}
use Rattle.rules.specs.Layout as rules
use Rattle.rules.specs.Why.{told, reason, why_refused, why_due, ended_before, due_in, at_visit}
use Rattle.machine.specs.Waiting.{Entry, node, trial, closing, waiting}
use Rattle.machine.specs.Turn.{Env, Turned, on, stop, turn, ended}
use Rattle.machine.specs.Well.{weight, Well}
use Rattle.machine.specs.Reached.{Reached, start, turned, Stops}
use Rattle.machine.proofs.Kept.{Next, turn-next}
use Rattle.machine.proofs.Ends.{finish, whole, whole-node, also-false}
use Rattle.machine.proofs.Rules.{seen, Onward, due_at, due_turn, turn_is}

-- the answer of a turn that stops
abbrev answer_of : Turned → ℕ
answer_of (on p left past w) = 0
answer_of (stop a n left) = a

-- a run that ended with 7 where a Group met broken was due
visit-told : (W : ℕ) (x : Outcome) (a : Tree) (ws : List rules.Entry) (c : ℕ)
    → (report x).answer ≡ 7 → due_in x ≡ rules.broken_group a ws c → at_visit W x ≡ told (reason W a ws c)
visit-told W x a ws c e f = ap₂ (λ q d. pick (eqb q 7) (why_due W d) (ended_before x)) e f

-- ---- a run that gives no reason

-- a run that ended before the visit: its own 6 to 9, or 13 for 0
pub ended_is : (x : Outcome) → ended_before x ≡ why_refused (pick (eqb (report x).answer 0) 13 (report x).answer)
ended_is (done p past s) = refl
ended_is (failed s) = refl
ended_is (refused (rules.steps d) n s) = refl
ended_is (refused rules.bytes n s) = refl
ended_is (refused rules.events n s) = refl

-- the same where the limit is one short of the visit: a node due in a fit test is 13 too
pub visit-ended : (W : ℕ) (x : Outcome) (a : ℕ) → (report x).answer ≡ a → (a ≡ 7 → due_in x ≡ other)
    → at_visit W x ≡ why_refused (pick (eqb a 7) 13 (pick (eqb a 0) 13 a))
visit-ended W x a e d = by (eqb a 7) refl
  where
    by : (b : Bool) → eqb a 7 ≡ b → at_visit W x ≡ why_refused (pick b 13 (pick (eqb a 0) 13 a))
    by true t = ap₂ (λ q y. pick q (why_due W y) (ended_before x)) (ap (λ q. eqb q 7) e ∙ t) (d (eqb-true a 7 t))
    by false t = ap (λ q. pick q (why_due W (due_in x)) (ended_before x)) (ap (λ q. eqb q 7) e ∙ t) ∙ ended_is x ∙ ap (λ q. why_refused (pick (eqb q 0) 13 q)) e

module _ (E : Env) (N : ℕ) (some : 0 < N) (few : N ≤ 1024) (valid : AllSound E.table (length E.str) N) (room : E.limits.room ≤ 65536) where
  abbrev at : ℕ → Tree
  at = tree E.table E.str

  -- the whole run
  abbrev pub outcome : Outcome
  outcome = lay E.limits (at (N - 1)) 0 broken [] blank 0

  -- what holds of every state that the run comes through
  record Through (p : Page) (left : ℕ) (past : Bool) (w : List Entry) : Type 0 where
    well : Well E.limits N p w
    within : left ≤ E.limits.limit
    same : whole E.limits at p w past (E.limits.limit - left) ≡ outcome

  starts : Through blank E.limits.limit false (node (N - 1) 0 broken ∷ [])
  unfolding finish waiting
  starts =
      let e : E.limits.limit - E.limits.limit ≡ 0 = omega arith in
      record {
        well = record { column = omega arith; fits = omega arith; room = room; stack = (record { number = omega arith; indent = omega arith }, tt) };
        within = omega arith;
        same =
            whole-node E.limits at blank (N - 1) 0 broken [] false _
            ∙ also-false (lay E.limits (at (N - 1)) 0 broken [] blank (E.limits.limit - E.limits.limit))
            ∙ ap (lay E.limits (at (N - 1)) 0 broken [] blank) e;
      }

  -- where a turn leads from there
  leads : {p : Page} {left : ℕ} {past : Bool} {e : Entry} {w : List Entry} → Through p left past (e ∷ w)
      → Onward E at (due_turn E at p left e w) (whole E.limits at p (e ∷ w) past (E.limits.limit - left)) (turn E p left past e w)
  leads {p} {left} {past} {e} {w} h =
      turn_is E at N valid (λ n l. tree-node E.table E.str n (length E.str) (valid n l)) p left past e w h.within h.well

  goes_on : {p p' : Page} {left left' : ℕ} {past past' : Bool} {e : Entry} {w w' : List Entry}
      → Through p left past (e ∷ w) → turn E p left past e w ≡ on p' left' past' w' → Through p' left' past' w'
  goes_on {p} {p'} {left} {left'} {past} {past'} {e} {w} {w'} h t =
      let next = subst (λ x. Next E.limits N left (3 * left + weight (e ∷ w)) x) t (turn-next E N valid p left past e w h.well) in
      let same = subst (λ x. Onward E at (due_turn E at p left e w) (whole E.limits at p (e ∷ w) past (E.limits.limit - left)) x) t (leads h) in
      record { well = next.0; within = omega (arith, next.1, h.within); same = sym same ∙ h.same }

  through : {p : Page} {left : ℕ} {past : Bool} {w : List Entry} → Reached E (N - 1) p left past w → Through p left past w
  through start = starts
  through (turned r t) = goes_on (through r) t

  pub reached-is : {p : Page} {left : ℕ} {past : Bool} {w : List Entry}
      → Reached E (N - 1) p left past w → whole E.limits at p w past (E.limits.limit - left) ≡ outcome
  reached-is r = (through r).same

  pub stop_is : {p : Page} {left : ℕ} {past : Bool} {e : Entry} {w : List Entry} (a n left' : ℕ)
      → Reached E (N - 1) p left past (e ∷ w) → turn E p left past e w ≡ stop a n left'
      → seen outcome ≡ record { told = ended E a n left'; due = due_turn E at p left e w }
  stop_is {p} {left} {past} {e} {w} a n left' r t =
      ap seen (sym (reached-is r))
      ∙ subst (λ x. Onward E at (due_turn E at p left e w) (whole E.limits at p (e ∷ w) past (E.limits.limit - left)) x) t (leads (through r))

  -- a node that is due with no step left
  pub due-node : {p : Page} {past : Bool} {w : List Entry} (n i : ℕ) (m : Mode)
      → Reached E (N - 1) p zero past (node n i m ∷ w)
      → seen outcome ≡ record { told = ended E 7 n 0; due = due_at E at (node_at E.table n) m (waiting at w) p.column }
  unfolding turn
  due-node n i m r = stop_is 7 n 0 r refl

  -- a turn that stops where no node was due in layout
  pub stops-is : {a n left : ℕ} → Stops E (N - 1) a n left → seen outcome ≡ record { told = ended E a n left; due = other }
  unfolding turn
  stops-is {a} {n} {left} s =
      stop_is a n left s.reached s.turns ∙ ap (λ d. record { told = ended E a n left; due = d }) (none s.entry s.before s.turns s.more)
    where
      none : (e : Entry) (before : ℕ) → turn E s.page before s.past e s.below ≡ stop a n left → (a ≡ 7 → 0 < before) → due_turn E at s.page before e s.below ≡ other
      none (node x i m) zero t more = absurd (omega (arith, more (ap answer_of (sym t))))
      none (node x i m) (suc k) t more = refl
      none (trial b i m v) before t more = refl
      none (closing x l) before t more = refl

  pub group-due : {p : Page} {past : Bool} {w : List Entry} (n i a : ℕ)
      → Reached E (N - 1) p zero past (node n i broken ∷ w) → node_at E.table n ≡ group a
      → (W : ℕ) → at_visit W outcome ≡ told (reason W (at a) (waiting at w) p.column)
  group-due {p} {past} {w} n i a r e W =
      let s = due-node n i broken r in
      visit-told W outcome (at a) (waiting at w) p.column (ap (λ z. z.told.answer) s)
      (ap (λ z. z.due) s ∙ ap (λ x. due_at E at x broken (waiting at w) p.column) e)

  -- any other node
  pub other-due : {p : Page} {past : Bool} {w : List Entry} (n i : ℕ) (m : Mode)
      → Reached E (N - 1) p zero past (node n i m ∷ w) → due_at E at (node_at E.table n) m (waiting at w) p.column ≡ other
      → (W : ℕ) → at_visit W outcome ≡ why_refused 13
  other-due n i m r e W =
      let s = due-node n i m r in
      visit-ended W outcome 7 (ap (λ z. z.told.answer) s) (λ seven. ap (λ z. z.due) s ∙ e)
