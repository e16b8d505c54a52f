-- What the exported `why` promises: the answer returned, the report's words, and every lent buffer zero.
-- Assumes nothing.
use Rattle.std.specs.Prelude.{ℕ, ◌≡◌, List, [], ◌∷◌, length, replicate, leb}
use Rattle.choice.specs.Pick.{pick}
use Rattle.rules.specs.Call.{Given}
use Rattle.rules.specs.Why.{WhyReport, why_refused, why}
use Rattle.layout.specs.Called.{lent}
use Rattle.pursegable.specs.Exported.{report_words, told}
use Rattle.pursegable.specs.declared.asking.Numbers.{Numbers}

-- ---- the report: answer; 0 flat or 1 broken; the reason's number; node and column

abbrev pub numbers_of : Numbers → WhyReport
numbers_of w = record { answer = w.answer; broken = w.broken; reason = w.reason; node = w.node; column = w.column }

abbrev pub five_why : WhyReport → List ℕ
five_why w = w.answer ∷ w.broken ∷ w.reason ∷ w.node ∷ w.column ∷ []

-- ---- the promise

-- what a call with a report of n words answers: a report shorter than five words is answer 1
unfoldable pub why_answering : Given → ℕ → ℕ → WhyReport
why_answering g step n = pick (leb report_words n) (why g step) (why_refused 1)

-- r is the answer returned; `size` is how many words of events are lent; the report has n words
pub record WhyExported (g : Given) (size step n r : ℕ) (out noted area report : List ℕ) : Type 0 where
  pub answer : r ≡ (why_answering g step n).answer
  pub output : out ≡ replicate g.room 0
  pub records : noted ≡ replicate size 0
  pub cleared : area ≡ replicate g.work 0
  pub report-holds : report ≡ told (five_why (why_answering g step n)) n

-- what is lent, then the answer and what is handed back
abbrev pub ExportedWhy : List ℕ → List ℕ → ℕ → ℕ → ℕ → List ℕ → List ℕ → List ℕ → List ℕ → ℕ → List ℕ → List ℕ → List ℕ → List ℕ → Type 0
ExportedWhy table text width limit step out events work report =
    WhyExported (lent table text width limit out events work) (length events) step (length report)
