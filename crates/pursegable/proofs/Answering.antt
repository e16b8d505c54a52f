-- An export's answer from the call that it makes: with a report shorter than five words that call's limit is out of range, so it answers 1.
--     exported    what the call promises, with the report told, is what the export promises
-- Assumes nothing.
use mathlib.Core.Path.{◌≡◌, refl, ap, ◌∙◌}
use mathlib.Core.Bool.{Bool, true, false, ◌&&◌}
use mathlib.Core.List.{List}
use Prim.Native.Nat.{ℕ}
use lib.Dec.{leb}
use Rattle.choice.specs.Pick.{pick}
use Rattle.rules.specs.Layout as rules
use Rattle.rules.specs.Call.{Given, refusal, call, padded}
use Rattle.layout.specs.declared.Report.{Report}
use Rattle.layout.specs.Called.{Form, held, Returned}
use Rattle.pursegable.specs.Exported.{report_words, five_of, five, told, no_limit, limit_for, answering, Exported}

-- the same but for the limit
abbrev pub limited : Given → ℕ → Given
limited g limit = record { table = g.table; text = g.text; width = g.width; limit = limit; room = g.room; slots = g.slots; work = g.work }

pub last_fails : (a : Bool) → (a && false) ≡ false
last_fails true = refl
last_fails false = refl

no-limit : (g : Given) → call (limited g no_limit) ≡ refusal 1 0
unfolding call
no-limit g = simp (last_fails (leb g.room 65536 && leb g.slots 4096 && leb 16384 g.work && leb g.width 65535))

answers : (g : Given) (n limit : ℕ) → limit ≡ limit_for g.limit n → call (limited g limit) ≡ answering g n
unfolding answering
answers g n limit e = ap (λ (l : ℕ). call (limited g l)) e ∙ by (leb report_words n)
  where
    by : (b : Bool) → call (limited g (pick b g.limit no_limit)) ≡ pick b (call g) (refusal 1 0)
    by true = refl
    by false = no-limit g

pub exported : {A : Type 0} (form : Form A) (g : Given) (n size limit : ℕ) {r : Report} {out : List ℕ} {noted : List A} {area report : List ℕ}
    → limit ≡ limit_for g.limit n → Returned form (call (limited g limit)) g.room size g.work r out noted area → report ≡ told (five_of r) n
    → Exported form size g n r.answer out noted area report
exported form g n size limit {r} l c is-told =
    let e : call (limited g limit) ≡ answering g n = answers g n limit l in
    let same : five_of r ≡ five (call (limited g limit)) = cc (c.answer, c.place, c.steps, c.used, c.events) in
    record {
      answer = c.answer ∙ ap (λ (x : rules.Report). x.answer) e;
      output = c.output ∙ ap (λ (x : rules.Report). padded x.bytes g.room) e;
      records = c.records ∙ ap (λ (x : rules.Report). held form x.events size) e;
      cleared = c.cleared;
      report-holds = is-told ∙ ap (λ (l : List ℕ). told l n) same ∙ ap (λ (x : rules.Report). told (five x) n) e;
    }
