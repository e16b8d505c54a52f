-- The exported `why`, from the call that it makes: with a report shorter than five words that call's limit is out of range, so it answers 1.
--     why_exported    what the call promises, with the report told, is what the export promises
--     why_unique      two outcomes that the promise allows are equal
-- Assumes nothing.
use mathlib.Core.Path.{◌≡◌, refl, sym, ap, ◌∙◌}
use mathlib.Core.Bool.{Bool, true, false, ◌&&◌}
use mathlib.Core.List.{List}
use Prim.Native.Nat.{ℕ}
use lib.Dec.{leb}
use Rattle.choice.specs.Pick.{pick}
use Rattle.rules.specs.Call.{Given}
use Rattle.rules.specs.Why.{why_refused, why}
use Rattle.why.specs.Promise.{Answer, why_of, WhyCalled}
use Rattle.pursegable.specs.Exported.{report_words, told, no_limit, limit_for}
use Rattle.pursegable.specs.WhyExported.{numbers_of, five_why, why_answering, WhyExported}
use Rattle.pursegable.specs.declared.asking.Numbers.{Numbers}
use Rattle.pursegable.proofs.Answering.{limited, last_fails}

no-limit : (g : Given) (step : ℕ) → why (limited g no_limit) step ≡ why_refused 1
unfolding why
no-limit g step = simp (last_fails (leb g.room 65536 && leb g.slots 4096 && leb 16384 g.work && leb g.width 65535))

answers : (g : Given) (step n limit : ℕ) → limit ≡ limit_for g.limit n → why (limited g limit) step ≡ why_answering g step n
unfolding why_answering
answers g step n limit e = ap (λ l. why (limited g l) step) e ∙ by (leb report_words n)
  where
    by : (b : Bool) → why (limited g (pick b g.limit no_limit)) step ≡ pick b (why g step) (why_refused 1)
    by true = refl
    by false = no-limit g step

pub why_exported : (g : Given) (size step n limit : ℕ) {r : Answer} {out noted area report : List ℕ} (w : Numbers)
    → limit ≡ limit_for g.limit n → WhyCalled (limited g limit) size step r out noted area → numbers_of w ≡ why_of r
    → report ≡ told (five_why (numbers_of w)) n
    → WhyExported g size step n w.answer out noted area report
why_exported g size step n limit w l c same is-told =
    let e : numbers_of w ≡ why_answering g step n = same ∙ c.same ∙ answers g step n limit l in
    record {
      answer = ap (λ x. x.answer) e;
      output = c.output;
      records = c.noted;
      cleared = c.cleared;
      report-holds = is-told ∙ ap (λ x. told (five_why x) n) e;
    }

pub why_unique : {g : Given} {size step n r r' : ℕ} {out out' noted noted' area area' report report' : List ℕ}
    → WhyExported g size step n r out noted area report → WhyExported g size step n r' out' noted' area' report'
    → (r ≡ r') × (out ≡ out') × (noted ≡ noted') × (area ≡ area') × (report ≡ report')
why_unique p q = (
  p.answer ∙ sym q.answer,
  p.output ∙ sym q.output,
  p.records ∙ sym q.records,
  p.cleared ∙ sym q.cleared,
  p.report-holds ∙ sym q.report-holds,
)
