-- What a public call promises: its numbers and every lent buffer afterwards are those of the rules' definition of a call.
-- In order: the defaults; what a call is given; an answer by its numbers; the promise, whatever its events are lent as; the same over words; what stands before the buffers
-- are cleared.
use Rattle.std.specs.Prelude.{◌≡◌, ℕ, ◌-◌, ◌*◌, ◌/◌, ◌≤◌, Result, Ok, Err, List, ◌++◌, length, take, replicate}
use Rattle.rules.specs.Layout as rules
use Rattle.rules.specs.Call.{Given, call, event_words, words_of, padded}
use Rattle.page.specs.Reading.{events_of}
use Rattle.table.specs.Refusal.{number}
use Rattle.layout.specs.declared.Laid.{Laid}
use Rattle.layout.specs.declared.Refused.{Refused}
use Rattle.layout.specs.declared.Report.{Report}

-- ---- the routines that take no width

-- the whole sheet's columns, the row label's, and the step limit of both
abbrev pub default_width : ℕ
default_width = 42

abbrev pub label_width : ℕ
label_width = 42

abbrev pub default_steps : ℕ
default_steps = 1000000

-- ---- what a call is given

-- table, text, width and limit, and how long the output, the events' words and the work area are; a record is lent whole or not at all
abbrev pub given : List ℕ → List ℕ → ℕ → ℕ → ℕ → ℕ → ℕ → Given
given table text width limit out events work =
    record { table = table; text = text; width = width; limit = limit; room = out; slots = events / event_words; work = work }

-- the same with the three buffers themselves
abbrev pub lent : List ℕ → List ℕ → ℕ → ℕ → List ℕ → List ℕ → List ℕ → Given
lent table text width limit out events work = given table text width limit (length out) (length events) (length work)

-- ---- what it answers, by document 01's numbers: a refusal uses nothing

abbrev pub report_of : Result Laid Refused → Report
report_of (Ok laid) = record { answer = 0; place = record { 0 = 0 }; steps = laid.steps; used = laid.used; events = laid.events }
report_of (Err refused) = record { answer = number refused.why; place = refused.place; steps = refused.steps; used = 0; events = 0 }

-- ---- what it hands back, whatever its events are lent as

-- How a buffer holds events: how many elements so many events take, which they are, and the element that stands past them.
pub record Form (A : Type 0) : Type 0 where
  pub extent : ℕ → ℕ
  pub hold : List rules.Event → List A
  pub blank : A

-- a buffer of that size: the used events, and blank past them
abbrev pub held : {A : Type 0} → Form A → List rules.Event → ℕ → List A
held form es size = form.hold es ++ replicate (size - length (form.hold es)) form.blank

-- `c` is what the rules report. The report and the buffers of output, events and work afterwards; `room`, `size` and `work` are their lengths.
pub record Returned {A : Type 0} (form : Form A) (c : rules.Report) (room size work : ℕ) (r : Report) (out : List ℕ) (noted : List A) (area : List ℕ) : Type 0 where
  pub answer : r.answer ≡ c.answer
  pub place : r.place.0 ≡ c.place
  pub steps : r.steps ≡ c.steps
  pub used : r.used ≡ length c.bytes
  pub events : r.events ≡ length c.events
  pub output : out ≡ padded c.bytes room
  pub records : noted ≡ held form c.events size
  pub cleared : area ≡ replicate work 0

-- ---- over words

abbrev pub as_words : Form ℕ
as_words = record { extent = λ n. n * event_words; hold = words_of; blank = 0 }

-- `size` is how many words of events are lent
abbrev pub Called : Given → ℕ → Report → List ℕ → List ℕ → List ℕ → Type 0
Called g size = Returned as_words (call g) g.room size g.work

-- as the contracts have it: what is lent, then what is handed back
abbrev pub called_with : List ℕ → List ℕ → ℕ → ℕ → List ℕ → List ℕ → List ℕ → Report → List ℕ → List ℕ → List ℕ → Type 0
called_with table text width limit out events work = Called (lent table text width limit out events work) (length events)

-- ---- before the buffers are cleared

abbrev pub reported : Report → List ℕ → List ℕ → rules.Report
reported r out events =
    record { answer = r.answer; place = r.place.0; steps = r.steps; bytes = take r.used out; events = events_of r.events events }

pub record Decided (g : Given) (r : Report) (out noted : List ℕ) : Type 0 where
  pub same : reported r out noted ≡ call g
  pub used : r.used ≤ length out
  pub events : r.events * event_words ≤ length noted
