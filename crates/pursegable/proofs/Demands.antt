-- Demands 1 and 3 of the exported layouts, over the answer that they return and the buffers that they are lent, the report among them; and that two
-- outcomes that an export's promise allows are equal.
--     demand_1, demand_3                     of any form that events are lent in
--     records_demand_1, records_demand_3     pursegable_layout, pursegable_sheet and pursegable_label
--     words_demand_1, words_demand_3         pursegable_layout_words
--     laid_unique, built_unique              the layouts; the constructors and the block layouts
-- Assumes nothing.
use Prim.Native.Nat.{ℕ, zero, suc, ◌/◌, ◌≤◌, zero-le}
use native.Mathlib.Omega.{arith}
use mathlib.Core.Path.{◌≡◌, refl, sym, ap, ◌∙◌}
use mathlib.Core.Bool.{Bool, true, false}
use mathlib.Core.List.{List}
use lib.Dec.{leb}
use lib.ListN.{length, get_or, replicate}
use Rattle.choice.specs.Pick.{pick}
use Rattle.rules.specs.Layout as rules
use Rattle.rules.specs.Call.{Given, limits, refusal, call, event_words, padded}
use Rattle.rules.proofs.Answers.{Answered, answered}
use Rattle.layout.specs.Called.{Form, Returned, as_words}
use Rattle.layout.specs.Demands.{Demand1, ByOneLaw, Unrefused, Demand3}
use Rattle.layout.proofs.Returned as returned
use Rattle.layout.proofs.Demands.{words_lawful}
use Rattle.events.specs.declared.Event.{Event}
use Rattle.events.specs.Called.{as_records}
use Rattle.events.proofs.Demands.{records_lawful}
use Rattle.pursegable.specs.Exported.{report_words, five, answering, Exported, report_of}
use Rattle.pursegable.specs.Building.{Left, left}

-- ---- one outcome

pub laid_unique : {A : Type 0} {form : Form A} {size : ℕ} {g : Given} {n : ℕ} {r r' : ℕ} {out out' : List ℕ} {noted noted' : List A} {area area' report report' : List ℕ}
    → Exported form size g n r out noted area report → Exported form size g n r' out' noted' area' report'
    → (r ≡ r') × (out ≡ out') × (noted ≡ noted') × (area ≡ area') × (report ≡ report')
laid_unique p q = (
  p.answer ∙ sym q.answer,
  p.output ∙ sym q.output,
  p.records ∙ sym q.records,
  p.cleared ∙ sym q.cleared,
  p.report-holds ∙ sym q.report-holds,
)

-- o is what the promise says of what was lent
pub built_unique : (o : Left) (r r' : ℕ) (table table' text text' counts counts' : List ℕ) → left r table text counts ≡ o → left r' table' text' counts' ≡ o
    → (r ≡ r') × (table ≡ table') × (text ≡ text') × (counts ≡ counts')
built_unique o r r' table table' text text' counts counts' p q =
    let e : left r table text counts ≡ left r' table' text' counts' = p ∙ sym q in
    (ap (λ (u : Left). u.answer) e, ap (λ (u : Left). u.table) e, ap (λ (u : Left). u.text) e, ap (λ (u : Left). u.counts) e)

-- ---- the report's words

zero-at : (n i : ℕ) → ◌≡◌ {A = ℕ} (get_or (replicate n 0) i 0) 0
zero-at zero i = refl
zero-at (suc n) zero = refl
zero-at (suc n) (suc i) = zero-at n i

-- b: whether there are five words
module _ (g : Given) (n : ℕ) where
  abbrev answer_if : Bool → rules.Report
  answer_if b = pick b (call g) (refusal 1 0)

  abbrev words_if : Bool → List ℕ
  words_if b = pick b (padded (five (answer_if b)) n) (replicate n 0)

  place-told : (b : Bool) → get_or (words_if b) 1 0 ≡ (answer_if b).place
  place-told true = refl
  place-told false = zero-at n 1

  steps-told : (b : Bool) → get_or (words_if b) 2 0 ≡ (answer_if b).steps
  steps-told true = refl
  steps-told false = zero-at n 2

  used-told : (b : Bool) → get_or (words_if b) 3 0 ≡ length (answer_if b).bytes
  used-told true = refl
  used-told false = zero-at n 3

  events-told : (b : Bool) → get_or (words_if b) 4 0 ≡ length (answer_if b).events
  events-told true = refl
  events-told false = zero-at n 4

-- ---- any form

module _ {A : Type 0} {form : Form A} {size : ℕ} {g : Given} {n r : ℕ} {out : List ℕ} {noted : List A} {area report : List ℕ} (p : Exported form size g n r out noted area report) where
  -- an export promises what the calls do, of the report that it tells
  pub returns : Returned form (answering g n) g.room size g.work (report_of r report) out noted area
  unfolding answering
  returns =
      let b : Bool = leb report_words n in
      record {
        answer = p.answer;
        place = ap (λ (l : List ℕ). get_or l 1 0) p.report-holds ∙ place-told g n b;
        steps = ap (λ (l : List ℕ). get_or l 2 0) p.report-holds ∙ steps-told g n b;
        used = ap (λ (l : List ℕ). get_or l 3 0) p.report-holds ∙ used-told g n b;
        events = ap (λ (l : List ℕ). get_or l 4 0) p.report-holds ∙ events-told g n b;
        output = p.output;
        records = p.records;
        cleared = p.cleared;
      }

  -- what is not refused for sizes has a report
  reported : (r ≡ 1 → ⊥) → answering g n ≡ call g
  unfolding answering
  reported u = by (leb report_words n) p.answer
    where
      by : (b : Bool) → r ≡ (answer_if g n b).answer → answer_if g n b ≡ call g
      by true e = refl
      by false e = absurd (u e)

-- answer 1 is answered as every call's
answering-answered : (g : Given) (n : ℕ) → Answered (limits g) (answering g n)
unfolding answering
answering-answered g n = by (leb report_words n)
  where
    by : (b : Bool) → Answered (limits g) (answer_if g n b)
    by true = answered g
    by false =
        record {
          among = omega arith;
          bytes-refused = λ _. refl;
          events-refused = λ _. refl;
          bytes_fit = zero-le;
          events-fit = zero-le;
          steps_unreported = λ _ _. refl;
          steps-within = zero-le;
          steps_at-limit = omega arith;
          place-laid = λ _. refl;
          place_sizes = λ _. refl;
          place-fail = λ _. refl;
          place-bytes = λ _. refl;
        }

module _ {A : Type 0} (form : Form A) (lawful : returned.Lawful form) where
  pub demand_1 : {size : ℕ} {g : Given} {n r : ℕ} {out : List ℕ} {noted : List A} {area report : List ℕ}
      → Exported form size g n r out noted area report → form.extent (length (answering g n).events) ≤ size
      → Demand1 form g.limit g.room size g.work (report_of r report) out noted area
  demand_1 {size} {g} {n} p fit = returned.demand_1 form lawful (returns p) (limits g) (answering-answered g n) refl fit

  pub demand_3 : {size size' : ℕ} {g h : Given} {n n' r r' : ℕ} {out out' : List ℕ} {noted noted' : List A} {area area' report report' : List ℕ}
      → Exported form size g n r out noted area report → Exported form size' h n' r' out' noted' area' report'
      → ByOneLaw g h → Unrefused (report_of r report) → Unrefused (report_of r' report')
      → Demand3 form (report_of r report) (report_of r' report') out out' noted noted'
  demand_3 {size} {size'} {g} {h} p q one u u' =
      returned.demand_3 form lawful (returns p) (returns q) g h (reported p u.for-sizes) (reported q u'.for-sizes) one u u'

-- ---- events as records

pub records_demand_1 : {g : Given} {n r : ℕ} {out : List ℕ} {noted : List Event} {area report : List ℕ}
    → Exported as_records g.slots g n r out noted area report
    → Demand1 as_records g.limit g.room g.slots g.work (report_of r report) out noted area
records_demand_1 {g} {n} p = demand_1 as_records records_lawful p (answering-answered g n).events-fit

pub records_demand_3 : {size size' : ℕ} {g h : Given} {n n' r r' : ℕ} {out out' : List ℕ} {noted noted' : List Event} {area area' report report' : List ℕ}
    → Exported as_records size g n r out noted area report → Exported as_records size' h n' r' out' noted' area' report'
    → ByOneLaw g h → Unrefused (report_of r report) → Unrefused (report_of r' report')
    → Demand3 as_records (report_of r report) (report_of r' report') out out' noted noted'
records_demand_3 p q = demand_3 as_records records_lawful p q

-- ---- events as words

pub words_demand_1 : {size : ℕ} {g : Given} {n r : ℕ} {out noted area report : List ℕ} → g.slots ≡ size / event_words
    → Exported as_words size g n r out noted area report
    → Demand1 as_words g.limit g.room size g.work (report_of r report) out noted area
words_demand_1 {size} {g} {n} lent p = demand_1 as_words words_lawful p (omega (arith, (answering-answered g n).events-fit))

pub words_demand_3 : {size size' : ℕ} {g h : Given} {n n' r r' : ℕ} {out out' noted noted' area area' report report' : List ℕ}
    → Exported as_words size g n r out noted area report → Exported as_words size' h n' r' out' noted' area' report'
    → ByOneLaw g h → Unrefused (report_of r report) → Unrefused (report_of r' report')
    → Demand3 as_words (report_of r report) (report_of r' report') out out' noted noted'
words_demand_3 p q = demand_3 as_words words_lawful p q
