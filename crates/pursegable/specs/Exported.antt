-- What an exported layout promises: the answer returned, the report's words, and the rest as the rules' definition of a call says it.
-- In order: the report; the promise, whatever form its events are lent in; the same as the contracts have it.
-- Assumes nothing.
use Rattle.std.specs.Prelude.{ℕ, ◌≡◌, List, [], ◌∷◌, length, get_or, replicate, leb}
use Rattle.choice.specs.Pick.{pick}
use Rattle.rules.specs.Layout as rules
use Rattle.rules.specs.Call.{Given, call, refusal, padded}
use Rattle.layout.specs.declared.Report.{Report}
use Rattle.layout.specs.Called.{Form, held, as_words}
use Rattle.layout.specs.Called as words
use Rattle.events.specs.declared.Event.{Event}
use Rattle.events.specs.Called.{as_records}
use Rattle.events.specs.Called as records

-- ---- the report: answer, place, steps, used bytes, used events

abbrev pub report_words : ℕ
report_words = 5

abbrev pub five_of : Report → List ℕ
five_of r = r.answer ∷ r.place.0 ∷ r.steps ∷ r.used ∷ r.events ∷ []

-- the same of what the rules report
abbrev pub five : rules.Report → List ℕ
five c = c.answer ∷ c.place ∷ c.steps ∷ length c.bytes ∷ length c.events ∷ []

-- five words at the front of a report of n, and zero in the rest; all zero if they are fewer than five
abbrev pub told : List ℕ → ℕ → List ℕ
told words n = pick (leb report_words n) (padded words n) (replicate n 0)

-- a step limit above every lawful one, and the limit that a call with a report of n words is laid out with
abbrev pub no_limit : ℕ
no_limit = 100000001

abbrev pub limit_for : ℕ → ℕ → ℕ
limit_for limit n = pick (leb report_words n) limit no_limit

-- ---- the promise

-- what a call with a report of n words answers: a report shorter than five words is answer 1
unfoldable pub answering : Given → ℕ → rules.Report
answering g n = pick (leb report_words n) (call g) (refusal 1 0)

-- r is the answer returned; `form` is how the events are lent, and `size` how many of its elements; the report has n words
pub record Exported {A : Type 0} (form : Form A) (size : ℕ) (g : Given) (n r : ℕ) (out : List ℕ) (noted : List A) (area report : List ℕ) : Type 0 where
  pub answer : r ≡ (answering g n).answer
  pub output : out ≡ padded (answering g n).bytes g.room
  pub records : noted ≡ held form (answering g n).events size
  pub cleared : area ≡ replicate g.work 0
  pub report-holds : report ≡ told (five (answering g n)) n

-- the report that is told: the answer returned, and the words after the first
abbrev pub report_of : ℕ → List ℕ → Report
report_of r report =
    record { answer = r; place = record { 0 = get_or report 1 0 }; steps = get_or report 2 0; used = get_or report 3 0; events = get_or report 4 0 }

-- ---- with the events as records, and as words: what is lent, then the answer and what is handed back

abbrev pub ExportedRecords : List ℕ → List ℕ → ℕ → ℕ → List ℕ → List Event → List ℕ → List ℕ → ℕ → List ℕ → List Event → List ℕ → List ℕ → Type 0
ExportedRecords table text width limit out events work report =
    Exported as_records (length events) (records.lent table text width limit out events work) (length report)

abbrev pub ExportedWords : List ℕ → List ℕ → ℕ → ℕ → List ℕ → List ℕ → List ℕ → List ℕ → ℕ → List ℕ → List ℕ → List ℕ → List ℕ → Type 0
ExportedWords table text width limit out events work report =
    Exported as_words (length events) (words.lent table text width limit out events work) (length report)
