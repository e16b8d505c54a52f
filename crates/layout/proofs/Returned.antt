-- Demands 1 and 3 of a call's promise `Returned`, once for every form that events are lent in; and that the promise allows one outcome only.
--     Lawful       what a form owes: no event takes nothing, and events take their extent
--     report-is    a report is its five numbers
--     unique       two outcomes for the same inputs are equal: the report and every lent buffer
--     answer_told  and so are two answers with the same report
--     demand_1     an answer of 0 to 9; lengths kept; blank past the used part, on a refusal all; the work area zero
--     demand_3     two calls that differ by one law hand back the same answer, and in their buffers the same used bytes and events
--     fed          every line feed in the output is a Hardline's
-- Assumes nothing.
use mathlib.Core.Path.{◌≡◌, sym, ap, ◌∙◌}
use Prim.Native.Nat.{ℕ, ◌-◌, ◌≤◌, ◌<◌}
use native.Mathlib.Omega.{arith}
use mathlib.Core.List.{List, [], ◌++◌}
use lib.ListN.{length, take, replicate, length-append, length-replicate}
use lib.Seq.{take-append_seam, drop-append_seam}
use Rattle.rules.specs.Layout as rules
use Rattle.rules.specs.Call.{Given, call, padded}
use Rattle.rules.specs.Law as law
use Rattle.rules.specs.Pieces.{Fed}
use Rattle.rules.proofs.Feeds.{all-fed}
use Rattle.table.specs.Unfold.{tree, root}
use Rattle.rules.proofs.Answers.{Answered}
use Rattle.rules.proofs.Cleared.{padded-length, padded-none}
use Rattle.rules.proofs.Demand3 as rules'
use Rattle.std.specs.Prelude.{Result, Ok, Err}
use Rattle.table.proofs.Refusals.{number_not-zero, number-injective}
use Rattle.layout.specs.declared.Laid.{Laid}
use Rattle.layout.specs.declared.Refused.{Refused}
use Rattle.layout.specs.declared.Report.{Report}
use Rattle.layout.specs.Called.{report_of, Form, held, Returned}
use Rattle.layout.specs.Demands.{Demand1, ByOneLaw, Unrefused, Demand3}

pub record Lawful {A : Type 0} (form : Form A) : Type 0 where
  pub none : form.hold [] ≡ []
  pub extent : (es : List rules.Event) → length (form.hold es) ≡ form.extent (length es)

-- ---- one outcome

pub report-is : (r r' : Report) → r.answer ≡ r'.answer → r.place.0 ≡ r'.place.0 → r.steps ≡ r'.steps → r.used ≡ r'.used → r.events ≡ r'.events → r ≡ r'
report-is r r' a p s u e = λ i. record { answer = a i; place = record { 0 = p i }; steps = s i; used = u i; events = e i }

pub unique : {A : Type 0} {form : Form A} {c : rules.Report} {room size work : ℕ} {r r' : Report} {out out' : List ℕ} {noted noted' : List A} {area area' : List ℕ}
    → Returned form c room size work r out noted area → Returned form c room size work r' out' noted' area'
    → (r ≡ r') × (out ≡ out') × (noted ≡ noted') × (area ≡ area')
unique p q = (
  report-is _ _ (p.answer ∙ sym q.answer) (p.place ∙ sym q.place) (p.steps ∙ sym q.steps) (p.used ∙ sym q.used) (p.events ∙ sym q.events),
  p.output ∙ sym q.output,
  p.records ∙ sym q.records,
  p.cleared ∙ sym q.cleared,
)

-- the numbers of an answer tell it
pub answer_told : (x y : Result Laid Refused) → report_of x ≡ report_of y → x ≡ y
answer_told (Ok x) (Ok y) e =
    let steps : x.steps ≡ y.steps = ap (λ (r : Report). r.steps) e in
    let used : x.used ≡ y.used = ap (λ (r : Report). r.used) e in
    let events : x.events ≡ y.events = ap (λ (r : Report). r.events) e in
    λ i. Ok (record { steps = steps i; used = used i; events = events i })
answer_told (Ok x) (Err y) e = absurd (number_not-zero y.why (sym (ap (λ (r : Report). r.answer) e)))
answer_told (Err x) (Ok y) e = absurd (number_not-zero x.why (ap (λ (r : Report). r.answer) e))
answer_told (Err x) (Err y) e =
    let why : x.why ≡ y.why = number-injective x.why y.why (ap (λ (r : Report). r.answer) e) in
    let place : x.place.0 ≡ y.place.0 = ap (λ (r : Report). r.place.0) e in
    let steps : x.steps ≡ y.steps = ap (λ (r : Report). r.steps) e in
    λ i. Err (record { why = why i; place = record { 0 = place i }; steps = steps i })

-- ---- a buffer of events

module _ {A : Type 0} (form : Form A) (lawful : Lawful form) where
  held-length : (es : List rules.Event) (size : ℕ) → length (form.hold es) ≤ size → length (held form es size) ≡ size
  held-length es size h = simp (length-append, length-replicate) (omega arith)

  held_none : (size : ℕ) → held form [] size ≡ replicate size form.blank
  held_none size =
      let e : size - 0 ≡ size = omega arith in
      ap (λ (l : List A). l ++ replicate (size - length l) form.blank) lawful.none ∙ ap (λ (n : ℕ). replicate n form.blank) e

  -- ---- one call

  module _ {c : rules.Report} {room size work : ℕ} {r : Report} {out : List ℕ} {noted : List A} {area : List ℕ} (p : Returned form c room size work r out noted area) where
    -- the elements that the events take
    extent-is : length (form.hold c.events) ≡ form.extent r.events
    extent-is = lawful.extent c.events ∙ ap form.extent (sym p.events)

    pub bytes-used : take r.used out ≡ c.bytes
    bytes-used = rw (p.output, p.used) (take-append_seam c.bytes _)

    pub records-used : take (form.extent r.events) noted ≡ form.hold c.events
    records-used = rw (p.records, ← extent-is) (take-append_seam (form.hold c.events) _)

    pub demand_1 : (L : rules.Limits) → Answered L c → L.room ≡ room → form.extent (length c.events) ≤ size → Demand1 form L.limit room size work r out noted area
    demand_1 L a same fit =
        let bytes_fit : length c.bytes ≤ room = rw same at a.bytes_fit in
        let refused : 0 < r.answer → 0 < c.answer = λ z. rw (sym p.answer) z in
        let long : length (form.hold c.events) ≤ size = rw (lawful.extent c.events) fit in
        record {
          among = rw p.answer a.among;
          output-length = ap length p.output ∙ padded-length c.bytes room bytes_fit;
          records-length = ap length p.records ∙ held-length c.events size long;
          work-length = ap length p.cleared ∙ length-replicate _ _;
          used = rw p.used bytes_fit;
          events = rw p.events fit;
          output-past = rw (p.output, p.used) (drop-append_seam c.bytes _);
          records-past = rw (p.records, ← extent-is) (drop-append_seam (form.hold c.events) _);
          used-refused = λ z. p.used ∙ ap length (a.bytes-refused (refused z));
          events-refused = λ z. p.events ∙ ap length (a.events-refused (refused z));
          output-refused = λ z. p.output ∙ ap (λ bs. padded bs room) (a.bytes-refused (refused z)) ∙ padded-none room;
          records-refused = λ z. p.records ∙ ap (λ es. held form es size) (a.events-refused (refused z)) ∙ held_none size;
          work-zero = p.cleared;
          steps_unreported = λ z six. p.steps ∙ a.steps_unreported (refused z) (rw (sym p.answer) six);
          steps-within = rw p.steps a.steps-within;
        }

    -- what is not refused for sizes, steps or room is not so by the rules
    pub unrefused : Unrefused r → law.Unrefused c
    unrefused u =
        record {
          for-sizes = λ e. u.for-sizes (p.answer ∙ e);
          for-steps = λ e. u.for-steps (p.answer ∙ e);
          for-bytes = λ e. u.for-bytes (p.answer ∙ e);
          for-events = λ e. u.for-events (p.answer ∙ e);
        }

  -- ---- two calls

  module _ {c c' : rules.Report} {room size work room' size' work' : ℕ} {r r' : Report} {out out' : List ℕ} {noted noted' : List A} {area area' : List ℕ}
      (p : Returned form c room size work r out noted area) (q : Returned form c' room' size' work' r' out' noted' area') where
    alike : law.Alike c c' → Demand3 form r r' out out' noted noted'
    alike a =
        record {
          answers = p.answer ∙ a.answers ∙ sym q.answer;
          used = p.used ∙ ap length a.bytes ∙ sym q.used;
          events = p.events ∙ ap length a.events ∙ sym q.events;
          bytes = bytes-used p ∙ a.bytes ∙ sym (bytes-used q);
          records = records-used p ∙ ap form.hold a.events ∙ sym (records-used q);
        }

    pub demand_3 : (g h : Given) → c ≡ call g → c' ≡ call h → ByOneLaw g h → Unrefused r → Unrefused r' → Demand3 form r r' out out' noted noted'
    demand_3 g h is is' one u u' =
        let of_g : law.Unrefused (call g) = rw is at (unrefused p u) in
        let of_h : law.Unrefused (call h) = rw is' at (unrefused q u') in
        alike (rw (is, is') (rules'.demand_3 g h one.valid one.valid' one.differ one.width one.text of_g of_h))

-- ---- line feeds

-- every line feed in the output of a call is a Hardline's
pub fed : {A : Type 0} (form : Form A) (lawful : Lawful form) (g : Given) {room size work : ℕ} {r : Report} {out : List ℕ} {noted : List A} {area : List ℕ}
    → Returned form (call g) room size work r out noted area → r.answer ≡ 0
    → Fed (tree g.table g.text (root g.table)) (take r.used out)
fed form lawful g p z = rw (bytes-used form lawful p) (all-fed g (sym p.answer ∙ z))
