-- `layout::decide` meets its contract: the sizes, then the table's fault, then the run.
-- Assumes nothing.
use native.Mathlib.Omega.{arith}
use mathlib.Core.Path.{◌≡◌, sym, ap, ◌∙◌}
use mathlib.Core.Bool.{true}
use Rattle.std.specs.Prelude.{Ok, Err}
use Rattle.std.proofs.lemmas.Result.{err_from_is_err_and}
use Rattle.table.specs.Fault.{Fault, check}
use Rattle.rules.specs.Call.{buffers_right}
use Rattle.layout.proofs.Whole.{Lent, asks, sizes-decided, fault-decided, nodes-small, start_of, run-decided}
use Rattle.layout.proofs.decide.Goals as goal

pub returns-then-not-buffers_right : goal.returns-then-not-buffers_right
returns-then-not-buffers_right c = sizes-decided (sym c.buffers_right.ensures ∙ c.if-not-buffers_right.true)

pub returns-in_err-validate : goal.returns-in_err-validate
returns-in_err-validate c =
    let p = err_from_is_err_and c.from_residual.result c.from_residual.ensures.1 in
    rw (p.1, p.2) (fault-decided c.in_err-validate.field-0.0 (sym c.buffers_right.ensures ∙ c.if-not-buffers_right.false) c.in_err-validate.ensures)

pub overflow_cast-nodes : goal.overflow_cast-nodes
overflow_cast-nodes c =
    let l : Lent = record { table = c.args.table.now; text = c.args.text.now; width = c.args.width; limit = c.args.limit; out = c.args.out.now; noted = c.args.events.now; area = c.args.work.now } in
    let right : buffers_right (asks l) ≡ true = sym c.buffers_right.ensures ∙ c.if-not-buffers_right.false in
    let sound : (check l.table l.text).answer ≡ 0 = ap (λ (f : Fault). f.answer) (sym c.in_ok-validate.ensures) in
    omega (arith, nodes-small l right sound)

pub best-requires : goal.best-requires
best-requires c =
    let l : Lent = record { table = c.args.table.now; text = c.args.text.now; width = c.args.width; limit = c.args.limit; out = c.args.out.now; noted = c.args.events.now; area = c.args.work.now } in
    let right : buffers_right (asks l) ≡ true = sym c.buffers_right.ensures ∙ c.if-not-buffers_right.false in
    let sound : (check l.table l.text).answer ≡ 0 = ap (λ (f : Fault). f.answer) (sym c.in_ok-validate.ensures) in
    start_of l right sound

pub returns-in-Ok : goal.returns-in-Ok
returns-in-Ok c =
    let l : Lent = record { table = c.args.table.now; text = c.args.text.now; width = c.args.width; limit = c.args.limit; out = c.args.out.now; noted = c.args.events.now; area = c.args.work.now } in
    let right : buffers_right (asks l) ≡ true = sym c.buffers_right.ensures ∙ c.if-not-buffers_right.false in
    let sound : (check l.table l.text).answer ≡ 0 = ap (λ (f : Fault). f.answer) (sym c.in_ok-validate.ensures) in
    run-decided l right sound (Ok c.in-Ok.end) (rw c.in-Ok.is at c.best.ensures)

pub returns-in-Err : goal.returns-in-Err
returns-in-Err c =
    let l : Lent = record { table = c.args.table.now; text = c.args.text.now; width = c.args.width; limit = c.args.limit; out = c.args.out.now; noted = c.args.events.now; area = c.args.work.now } in
    let right : buffers_right (asks l) ≡ true = sym c.buffers_right.ensures ∙ c.if-not-buffers_right.false in
    let sound : (check l.table l.text).answer ≡ 0 = ap (λ (f : Fault). f.answer) (sym c.in_ok-validate.ensures) in
    run-decided l right sound (Err c.in-Err.stopped) (rw c.in-Err.is at c.best.ensures)
