-- `summary::step_down` meets its contract: an arm for each kind, by the law that Steps.antt has for it.
-- Assumes nothing.
use native.Mathlib.Omega.{arith}
use Rattle.summary.proofs.Steps.{asked_small, step-nil, step-bare, step_fits, step_past, step_one, step-flat_alt-flat, step-flat_alt-broken, step-hardline-flat, step-hardline-broken, step-text, step-text-past, step-union, step-fail}
use Rattle.summary.proofs.step_down.Goals as goal

pub returns-in-0 : goal.returns-in-0
returns-in-0 c =
    step-nil c.requires c.words_at-w.ensures c.args.flat c.in-0.is

pub overflow_add-end : goal.overflow_add-end
overflow_add-end c =
    omega (arith, asked_small c.requires c.words_at-w.ensures c.args.flat c.in-1.is _ c.summary_at-first.ensures, c.requires.column)

pub returns-then-first-eq0 : goal.returns-then-first-eq0
returns-then-first-eq0 c =
    step-bare c.requires c.words_at-w.ensures c.args.flat c.in-1.is _ c.summary_at-first.ensures c.if-first-eq0.true

pub returns-then-end-width : goal.returns-then-end-width
returns-then-end-width c =
    step_fits c.requires c.words_at-w.ensures c.args.flat c.in-1.is _ c.summary_at-first.ensures c.if-first-eq0.false c.if-end-width.true

pub returns-else-end-width : goal.returns-else-end-width
returns-else-end-width c =
    step_past c.requires c.words_at-w.ensures c.args.flat c.in-1.is _ c.summary_at-first.ensures c.if-first-eq0.false c.if-end-width.false

pub returns-in-2 : goal.returns-in-2
returns-in-2 c =
    step_one c.requires c.words_at-w.ensures c.args.flat c.in-2.is

pub returns-in-3 : goal.returns-in-3
returns-in-3 c =
    rw c.if-flat.true (step-flat_alt-flat c.requires c.words_at-w.ensures c.in-3.is)

pub returns-in-3-2 : goal.returns-in-3-2
returns-in-3-2 c =
    rw c.if-flat.false (step-flat_alt-broken c.requires c.words_at-w.ensures c.in-3.is)

pub returns-in-5 : goal.returns-in-5
returns-in-5 c =
    rw c.if-flat-2.true (step-hardline-flat c.requires c.words_at-w.ensures c.in-5.is)

pub returns-in-5-2 : goal.returns-in-5-2
returns-in-5-2 c =
    rw c.if-flat-2.false (step-hardline-broken c.requires c.words_at-w.ensures c.in-5.is)

pub returns-then-end-width-2 : goal.returns-then-end-width-2
returns-then-end-width-2 c =
    step-text c.requires c.words_at-w.ensures c.args.flat c.in-6.is c.if-end-width-2.true

pub returns-else-end-width-2 : goal.returns-else-end-width-2
returns-else-end-width-2 c =
    step-text-past c.requires c.words_at-w.ensures c.args.flat c.in-6.is c.if-end-width-2.false

pub returns-in-8 : goal.returns-in-8
returns-in-8 c =
    step-union c.requires c.words_at-w.ensures c.args.flat c.in-8.is

pub returns-in_default : goal.returns-in_default
returns-in_default c =
    step-fail c.requires c.words_at-w.ensures c.args.flat (omega arith) (omega arith) (omega arith) (omega arith) (omega arith) (omega arith) (omega arith)
