-- `within`: asked for, then the body or all layouts.
use mathlib.Core.Path.{sym, ◌∙◌}
use mathlib.Core.Bool.{true≢false}
use borrow.Author.Tests.{eqb-true, eq-eqb}
use Rattle.block.proofs.Asking.{within-refused, within-body, within_asks, within_last}
use Rattle.build.proofs.Handed.{handed}
use Rattle.block.proofs.within.Goals as goal

pub returns-in_err-ask : goal.returns-in_err-ask
returns-in_err-ask c =
    let args = c.args in
    rw (handed c.from_residual.result c.from_residual.ensures.1)
    (within-refused args.c args.table.now args.text.now args.block args.affixes.prefixes.now args.affixes.suffixes.now args.affixes.nests.now _
    (sym (rw (c.operands-present.ensures, c.nest_right-right.ensures, c.least-few.ensures) at c.ask.ensures)
    ∙ c.in_err-ask.was))

pub returns-then-is_empty : goal.returns-then-is_empty
returns-then-is_empty c =
    let args = c.args in
    within-body args.c args.table.now args.text.now args.block args.affixes.prefixes.now args.affixes.suffixes.now args.affixes.nests.now
    (sym (rw (c.operands-present.ensures, c.nest_right-right.ensures, c.least-few.ensures) at c.ask.ensures)
    ∙ c.in_ok-ask.was)
    (eqb-true _ _ (sym c.is_empty.ensures ∙ c.if-is_empty.true))

pub placed-requires : goal.placed-requires
placed-requires c =
    let args = c.args in
    within_asks args.c args.table.now args.text.now args.block args.affixes.prefixes.now args.affixes.suffixes.now args.affixes.nests.now
    (sym (rw (c.operands-present.ensures, c.nest_right-right.ensures, c.least-few.ensures) at c.ask.ensures)
    ∙ c.in_ok-ask.was)
    (λ e. true≢false (sym (eq-eqb _ _ e) ∙ sym c.is_empty.ensures ∙ c.if-is_empty.false))

pub returns : goal.returns
returns c =
    let args = c.args in
    within_last args.c args.table.now args.text.now args.block args.affixes.prefixes.now args.affixes.suffixes.now args.affixes.nests.now
    (sym (rw (c.operands-present.ensures, c.nest_right-right.ensures, c.least-few.ensures) at c.ask.ensures)
    ∙ c.in_ok-ask.was)
    (λ e. true≢false (sym (eq-eqb _ _ e) ∙ sym c.is_empty.ensures ∙ c.if-is_empty.false)) c.placed.ensures
