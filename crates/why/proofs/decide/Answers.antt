-- `why::decide` meets its contract: the sizes, then the table's fault, then the run up to the visit.
-- Assumes nothing.
use mathlib.Core.Path.{◌≡◌, sym, ap, ◌∙◌}
use mathlib.Core.Bool.{true}
use Rattle.std.proofs.lemmas.Result.{err_from_is_err_and}
use Rattle.table.specs.Fault.{Fault, check}
use Rattle.table.specs.Refusal.{number}
use Rattle.table.proofs.Refusals.{number_not-zero}
use Rattle.rules.specs.Call.{buffers_right}
use Rattle.rules.specs.Why.{why_refused}
use Rattle.layout.proofs.Whole.{Lent, asks, start_of}
use Rattle.why.proofs.Asked.{sizes-why, fault-why, run-why}
use Rattle.why.proofs.decide.Goals as goal

pub returns-then-not-buffers_right : goal.returns-then-not-buffers_right
returns-then-not-buffers_right c =
    let l : Lent = record { table = c.args.table.now; text = c.args.text.now; width = c.args.width; limit = c.args.limit; out = c.args.out.now; noted = c.args.events.now; area = c.args.work.now } in
    sym (sizes-why (asks l) _ (sym c.buffers_right.ensures ∙ c.if-not-buffers_right.true))

pub returns-in_err-validate : goal.returns-in_err-validate
returns-in_err-validate c =
    let l : Lent = record { table = c.args.table.now; text = c.args.text.now; width = c.args.width; limit = c.args.limit; out = c.args.out.now; noted = c.args.events.now; area = c.args.work.now } in
    -- past the first test the sizes are right
    let right : buffers_right (asks l) ≡ true = sym c.buffers_right.ensures ∙ c.if-not-buffers_right.false in
    let p = err_from_is_err_and c.from_residual.result c.from_residual.ensures.1 in
    let same : number c.in_err-validate.field-0.0.why ≡ (check l.table l.text).answer = ap (λ (f : Fault). f.answer) c.in_err-validate.ensures in
    rw (p.1, p.2) (ap why_refused same ∙ sym (fault-why (asks l) _ right (λ z. number_not-zero c.in_err-validate.field-0.0.why (same ∙ z))))

pub ask-requires : goal.ask-requires
ask-requires c =
    let l : Lent = record { table = c.args.table.now; text = c.args.text.now; width = c.args.width; limit = c.args.limit; out = c.args.out.now; noted = c.args.events.now; area = c.args.work.now } in
    let right : buffers_right (asks l) ≡ true = sym c.buffers_right.ensures ∙ c.if-not-buffers_right.false in
    -- past the second the table has no fault
    let sound : (check l.table l.text).answer ≡ 0 = ap (λ (f : Fault). f.answer) (sym c.in_ok-validate.ensures) in
    start_of l right sound

pub returns : goal.returns
returns c =
    let l : Lent = record { table = c.args.table.now; text = c.args.text.now; width = c.args.width; limit = c.args.limit; out = c.args.out.now; noted = c.args.events.now; area = c.args.work.now } in
    let right : buffers_right (asks l) ≡ true = sym c.buffers_right.ensures ∙ c.if-not-buffers_right.false in
    let sound : (check l.table l.text).answer ≡ 0 = ap (λ (f : Fault). f.answer) (sym c.in_ok-validate.ensures) in
    c.ask.ensures ∙ sym (run-why (asks l) _ right sound)
