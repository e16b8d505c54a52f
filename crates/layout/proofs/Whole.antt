-- A whole call: sizes, then the table's faults, then the run; and the buffers afterwards.
--     call_sizes, call-fault, call-run             which of the three a call is
--     sizes-decided, fault-decided, run-decided    what `decide` answers in each
--     called                                       and once the buffers are cleared
-- Assumes nothing.
use mathlib.Core.Path.{◌≡◌, sym, ap, ◌∙◌}
use Prim.Native.Nat.{ℕ, ◌-◌, ◌*◌, ◌/◌, ◌≤◌, ◌<◌}
use native.Mathlib.Omega.{arith}
use mathlib.Core.Bool.{Bool, true, false, ◌&&◌}
use mathlib.Core.List.{List}
use lib.ListN.{length, take, replicate}
use lib.Seq.{length-take-le}
use lib.Dec.{leb}
use borrow.Author.Tests.{eq-eqb, ne_eqb, leb-true}
use Rattle.buffer.specs.Run.{zeroed}
use Rattle.std.specs.Prelude.{Result, Ok, Err}
use Rattle.table.specs.Fault.{Fault, check}
use Rattle.table.specs.Parts.{Tells}
use Rattle.table.specs.Refusal.{number}
use Rattle.table.specs.declared.Fault.{Fault as Told}
use Rattle.table.specs.declared.refusal.Refusal.{Refusal}
use Rattle.table.specs.declared.refusal.Refusal.TheVariants.{BadSize}
use Rattle.table.proofs.Refusals.{number_not-zero}
use Rattle.table.specs.Unfold.{tree, root}
use Rattle.table.specs.declared.NodeNo.{NodeNo}
use Rattle.choice.proofs.Tests.{and-true}
use Rattle.table.proofs.Accept.{valid_if-zero}
use Rattle.table.proofs.Sound.{all-sound_of-check}
use Rattle.rules.specs.Layout as rules
use Rattle.rules.specs.Call.{Given, buffers_right, limits, refusal, call, words_of, event_words}
use Rattle.machine.proofs.Rules.{layout_is}
use Rattle.page.specs.Reading.{events_of}
use Rattle.page.proofs.Events.{length-events}
use Rattle.render.specs.Visit.{Start}
use Rattle.lay.specs.declared.Stopped.{Stopped}
use Rattle.render.specs.Best as best
use Rattle.render.specs.Best.{Laid}
use Rattle.render.specs.declared.End.{End}
use Rattle.layout.specs.Called.{lent, report_of, Called, Decided}
use Rattle.layout.specs.declared.Laid.{Laid as Answer}
use Rattle.layout.specs.declared.Refused.{Refused}
use Rattle.layout.specs.declared.Report.{Report}
use Rattle.layout.proofs.Words.{words-front}

-- ---- which answer

pub call_sizes : (g : Given) → buffers_right g ≡ false → call g ≡ refusal 1 0
unfolding call
call_sizes g e = rw e

pub call-fault : (g : Given) → buffers_right g ≡ true → ((check g.table g.text).answer ≡ 0 → ⊥)
    → call g ≡ refusal (check g.table g.text).answer (check g.table g.text).place
unfolding call
call-fault g e ne = rw (e, ne_eqb _ _ ne)

pub call-run : (g : Given) → buffers_right g ≡ true → (check g.table g.text).answer ≡ 0
    → call g ≡ rules.layout (limits g) (tree g.table g.text (root g.table))
unfolding call
call-run g e z = rw (e, eq-eqb _ _ z)

-- ---- a refusal before any run

module _ {g : Given} {out noted : List ℕ} where
  refusal-decided : (why : Refusal) (n : NodeNo) → call g ≡ refusal (number why) n.0 → Decided g (report_of (Err (record { why = why; place = n; steps = 0 }))) out noted
  unfolding events_of
  refusal-decided why n e = record { same = sym e; used = omega arith; events = omega arith }

  pub sizes-decided : buffers_right g ≡ false → Decided g (report_of (Err (record { why = BadSize; place = record { 0 = 0 }; steps = 0 }))) out noted
  sizes-decided e = refusal-decided BadSize (record { 0 = 0 }) (call_sizes g e)

  pub fault-decided : (f : Told) → buffers_right g ≡ true → Tells (Err f) (check g.table g.text)
      → Decided g (report_of (Err (record { why = f.why; place = f.place; steps = 0 }))) out noted
  fault-decided f e tells =
      let some : (check g.table g.text).answer ≡ 0 → ⊥ = λ z. number_not-zero f.why (ap (λ (f : Fault). f.answer) tells ∙ z) in
      refusal-decided f.why f.place (call-fault g e some ∙ ap (λ (f : Fault). refusal f.answer f.place) (sym tells))

-- ---- the run

-- the bounds that answer 1 is about, besides those of table and text
pub record Bounded (g : Given) : Type 0 where
  pub room : g.room ≤ 65536
  pub slots : g.slots ≤ 4096
  pub work : 16384 ≤ g.work
  pub width : g.width ≤ 65535
  pub limit : g.limit ≤ 100000000

pub bounded : (g : Given) → buffers_right g ≡ true → Bounded g
bounded g right =
    let room : Bool = leb g.room 65536 in
    let slots : Bool = leb g.slots 4096 in
    let work : Bool = leb 16384 g.work in
    let width : Bool = leb g.width 65535 in
    let four = and-true (room && slots && work && width) (leb g.limit 100000000) right in
    let three = and-true (room && slots && work) width four.0 in
    let two = and-true (room && slots) work three.0 in
    let one = and-true room slots two.0 in
    record {
      room = leb-true _ _ one.0;
      slots = leb-true _ _ one.1;
      work = leb-true _ _ two.1;
      width = leb-true _ _ three.1;
      limit = leb-true _ _ four.1;
    }

-- what is lent: the buffers of output, events and work as they stand
pub record Lent : Type 0 where
  pub table : List ℕ
  pub text : List ℕ
  pub width : ℕ
  pub limit : ℕ
  pub out : List ℕ
  pub noted : List ℕ
  pub area : List ℕ

abbrev pub asks : Lent → Given
asks l = lent l.table l.text l.width l.limit l.out l.noted l.area

abbrev pub nodes : Lent → ℕ
nodes l = length l.table / 4

module _ (l : Lent) (right : buffers_right (asks l) ≡ true) (sound : (check l.table l.text).answer ≡ 0) where
  pub nodes-small : nodes l < 4294967296
  nodes-small = omega (arith, (valid_if-zero l.table l.text sound).words)

  pub start_of : Start l.table l.text l.out l.noted l.area l.width (nodes l)
  start_of =
      let v = valid_if-zero l.table l.text sound in
      let b = bounded (asks l) right in
      record {
        valid = all-sound_of-check l.table l.text sound;
        some = omega (arith, v.some, v.fours);
        words = omega arith;
        small = omega (arith, v.words);
        texts = v.bytes;
        room = b.room;
        slots = omega (arith, b.slots);
        area = b.work;
        width = b.width;
      }

  -- a run's end, with the steps taken in place of those left
  abbrev ended : Result End Stopped → Result Answer Refused
  ended (Ok e) = Ok (record { steps = l.limit - e.left; used = e.used; events = e.events })
  ended (Err e) = Err (record { why = e.why; place = e.place; steps = l.limit - e.left })

  pub run-decided : (r : Result End Stopped) {out' noted' : List ℕ} → Laid l.table l.text l.out l.noted l.width l.limit (nodes l) r out' noted'
      → Decided (asks l) (report_of (ended r)) out' noted'
  run-decided r laid =
      let s = start_of in
      let same = laid.same ∙ layout_is l.table l.text (limits (asks l)) (nodes l) s.some s.small s.valid s.room ∙ sym (call-run (asks l) right sound) in
      by r laid same
    where
      by : (r : Result End Stopped) {out' noted' : List ℕ} → Laid l.table l.text l.out l.noted l.width l.limit (nodes l) r out' noted'
          → best.report_of l.limit r out' noted' ≡ call (asks l) → Decided (asks l) (report_of (ended r)) out' noted'
      by (Ok e) laid same = record { same = same; used = laid.used; events = laid.events }
      by (Err e) laid same = record { same = same; used = laid.used; events = laid.events }

-- ---- the buffers

-- out, noted and area as the run left them, and as clearing leaves them
pub called : {g : Given} {size : ℕ} {r : Report} {out noted out' noted' area' : List ℕ} (area : List ℕ)
    → Decided g r out noted
    → length out ≡ g.room → length noted ≡ size → length area ≡ g.work
    → out' ≡ zeroed out r.used → noted' ≡ zeroed noted (r.events * event_words) → area' ≡ replicate (length area) 0
    → Called g size r out' noted' area'
called {g} {size} {r} {out} {noted} area d room long work zero-out zero-noted zero-area =
    let bytes : (call g).bytes ≡ take r.used out = sym (ap (λ (x : rules.Report). x.bytes) d.same) in
    let events : (call g).events ≡ events_of r.events noted = sym (ap (λ (x : rules.Report). x.events) d.same) in
    let front : words_of (call g).events ≡ take (r.events * event_words) noted = rw events (words-front r.events noted d.events) in
    let bytes_long : length (take r.used out) ≡ r.used = length-take-le r.used out d.used in
    let front_long : length (take (r.events * event_words) noted) ≡ r.events * event_words = length-take-le (r.events * event_words) noted d.events in
    record {
      answer = ap (λ (x : rules.Report). x.answer) d.same;
      place = ap (λ (x : rules.Report). x.place) d.same;
      steps = ap (λ (x : rules.Report). x.steps) d.same;
      used = sym (rw bytes bytes_long);
      events = sym (rw events (length-events r.events noted));
      output = zero-out ∙ rw (bytes, bytes_long, room);
      records = zero-noted ∙ rw (front, front_long, long);
      cleared = zero-area ∙ rw work;
    }
