-- What demands 1 and 2 lean on of a whole call: that every call has one of the answers 0 to 9, and what each says of the bytes, events, steps and place.
-- `answered` stands last. Assumes nothing.
use Prim.Native.Nat.{ℕ, zero, suc, ◌≤◌, ◌<◌, ◌/◌, zero-le}
use native.Mathlib.Nat.{not-suc-le-zero}
use native.Mathlib.Omega.{arith}
use mathlib.Core.Path.{◌≡◌, refl}
use mathlib.Core.Bool.{Bool, true, false, ◌&&◌}
use mathlib.Core.List.{List, []}
use lib.Dec.{eqb, ltb}
use lib.ListN.{length}
use borrow.Author.Tests.{eqb-false}
use Rattle.choice.specs.Pick.{pick}
use Rattle.table.specs.Kinds.{kind_at}
use Rattle.table.specs.Fault.{Fault, fault, none, unused_zero, children_below, nest_in_range, range_inside, text_right, fault_of, fault_at, or_else, first_fault, sizes_right, check}
use Rattle.table.specs.Unfold.{Tree, tree, root}
use Rattle.rules.specs.Layout.{Limits, blank, broken, Outcome, Report, report, layout}
use Rattle.rules.specs.Call.{Given, buffers_right, limits, refusal, unless_fault, call}
use Rattle.rules.proofs.Bounds.{Bounded, done-within, failed-within, at-limit, no_bytes, no-event, lay_bounded}

-- what is so of every report
pub record Answered (L : Limits) (r : Report) : Type 0 where
  -- a number of document 01
  pub among : r.answer ≤ 9
  -- used bytes and events are 0 on a refusal, and fit their buffers
  pub bytes-refused : 0 < r.answer → r.bytes ≡ []
  pub events-refused : 0 < r.answer → r.events ≡ []
  pub bytes_fit : length r.bytes ≤ L.room
  pub events-fit : length r.events ≤ L.slots
  -- steps are reported for 0 and 6 to 9 and are 0 otherwise; at 7 they equal the limit
  pub steps_unreported : 0 < r.answer → r.answer < 6 → r.steps ≡ 0
  pub steps-within : r.steps ≤ L.limit
  pub steps_at-limit : r.answer ≡ 7 → r.steps ≡ L.limit
  -- the place is 0 for 0, 1, 6 and 8
  pub place-laid : r.answer ≡ 0 → r.place ≡ 0
  pub place_sizes : r.answer ≡ 1 → r.place ≡ 0
  pub place-fail : r.answer ≡ 6 → r.place ≡ 0
  pub place-bytes : r.answer ≡ 8 → r.place ≡ 0

-- a report with nothing used
empty : (L : Limits) (a n s : ℕ) → 0 < a → a ≤ 9
    → (a < 6 → s ≡ 0) → s ≤ L.limit → (a ≡ 7 → s ≡ L.limit)
    → (a ≡ 1 → n ≡ 0) → (a ≡ 6 → n ≡ 0) → (a ≡ 8 → n ≡ 0)
    → Answered L (record { answer = a; place = n; steps = s; bytes = []; events = [] })
empty L a n s z among early h seven one six eight =
    record {
      among = among;
      bytes-refused = λ _. refl;
      events-refused = λ _. refl;
      bytes_fit = zero-le;
      events-fit = zero-le;
      steps_unreported = λ _. early;
      steps-within = h;
      steps_at-limit = seven;
      place-laid = λ e. omega arith;
      place_sizes = one;
      place-fail = six;
      place-bytes = eight;
    }

-- ---- runs

reported : (L : Limits) {x : Outcome} → Bounded L x → Answered L (report x)
reported L (done-within r h) =
    record {
      among = omega arith;
      bytes-refused = λ z. absurd (not-suc-le-zero z);
      events-refused = λ z. absurd (not-suc-le-zero z);
      bytes_fit = r.in_bytes;
      events-fit = r.in-events;
      steps_unreported = omega arith;
      steps-within = h;
      steps_at-limit = omega arith;
      place-laid = λ _. refl;
      place_sizes = λ _. refl;
      place-fail = λ _. refl;
      place-bytes = λ _. refl;
    }
reported L (failed-within h) = empty L 6 0 _ (omega arith) (omega arith) (omega arith) h (omega arith) (omega arith) (omega arith) (omega arith)
reported L at-limit = empty L 7 _ _ (omega arith) (omega arith) (omega arith) (omega arith) (omega arith) (omega arith) (omega arith) (omega arith)
reported L (no_bytes h) = empty L 8 0 _ (omega arith) (omega arith) (omega arith) h (omega arith) (omega arith) (omega arith) (omega arith)
reported L (no-event h) = empty L 9 _ _ (omega arith) (omega arith) (omega arith) h (omega arith) (omega arith) (omega arith) (omega arith)

run-answered : (L : Limits) (t : Tree) → Answered L (layout L t)
unfolding layout
run-answered L t = reported L (lay_bounded L t 0 broken [] blank 0 (record { in_bytes = zero-le; in-events = zero-le }) zero-le)

-- ---- faults

-- an answer of one node: none, or 2 to 5
record NodeAnswer (a : ℕ) : Type 0 where
  to-five : a ≤ 5
  not_one : a ≡ 1 → ⊥

node-answer : (text : List ℕ) (n k a b c : ℕ) → NodeAnswer (fault_of text n k a b c)
unfolding fault_of
node-answer text n k a b c =
    by (ltb k 11 && unused_zero (kind_at k).words a b c) (children_below n (kind_at k).children a b && nest_in_range k b c) (range_inside text k a b) (text_right text k a b c)
  where
    by : (two three four five : Bool) → NodeAnswer (pick two (pick three (pick four (pick five 0 5) 4) 3) 2)
    by false three four five = record { to-five = omega arith; not_one = omega arith }
    by true false four five = record { to-five = omega arith; not_one = omega arith }
    by true true false five = record { to-five = omega arith; not_one = omega arith }
    by true true true false = record { to-five = omega arith; not_one = omega arith }
    by true true true true = record { to-five = omega arith; not_one = omega arith }

first-answer : (table text : List ℕ) (n : ℕ) → NodeAnswer (first_fault table text n).answer
unfolding first_fault fault_at
first-answer table text zero = record { to-five = omega arith; not_one = omega arith }
first-answer table text (suc n) = by (first_fault table text n) (fault_at table text n) (first-answer table text n) (node-answer text n _ _ _ _)
  where
    by : (f : Fault) (a : ℕ) → NodeAnswer f.answer → NodeAnswer a → NodeAnswer (or_else f n a).answer
    by f a h k = at (eqb f.answer 0) (eqb a 0)
      where
        at : (b c : Bool) → NodeAnswer (pick b (pick c none (fault a n)) f).answer
        at true true = record { to-five = omega arith; not_one = omega arith }
        at true false = k
        at false c = h

-- no answer of validation passes 5, and the place of 1 is 0
record Faulty (f : Fault) : Type 0 where
  to-five : f.answer ≤ 5
  sizes : f.answer ≡ 1 → f.place ≡ 0

check_faulty : (table text : List ℕ) → Faulty (check table text)
unfolding check
check_faulty table text = by (sizes_right (length table) (length text)) (first-answer table text (length table / 4))
  where
    by : (b : Bool) → NodeAnswer (first_fault table text (length table / 4)).answer → Faulty (pick b (first_fault table text (length table / 4)) (fault 1 0))
    by true h = record { to-five = h.to-five; sizes = λ e. absurd (h.not_one e) }
    by false h = record { to-five = omega arith; sizes = λ _. refl }

-- ---- calls

unless-fault : (L : Limits) (f : Fault) (r : Report) → Faulty f → Answered L r → Answered L (unless_fault f r)
unless-fault L f r h a = by (eqb f.answer 0) refl
  where
    by : (b : Bool) → eqb f.answer 0 ≡ b → Answered L (pick b r (refusal f.answer f.place))
    by true e = a
    by false e =
        let z : 0 < f.answer = omega (arith, eqb-false f.answer 0 e) in
        let five : f.answer ≤ 5 = h.to-five in
        empty L f.answer f.place 0 z (omega arith) (λ _. refl) zero-le (λ n. omega arith) h.sizes (λ n. omega arith) (λ n. omega arith)

pub answered : (g : Given) → Answered (limits g) (call g)
unfolding call
answered g = by (buffers_right g)
  where
    by : (b : Bool) → Answered (limits g) (pick b (unless_fault (check g.table g.text) (layout (limits g) (tree g.table g.text (root g.table)))) (refusal 1 0))
    by true = unless-fault (limits g) (check g.table g.text) _ (check_faulty g.table g.text) (run-answered (limits g) _)
    by false = empty (limits g) 1 0 0 (omega arith) (omega arith) (λ _. refl) zero-le (omega arith) (λ _. refl) (omega arith) (omega arith)
