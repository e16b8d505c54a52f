use Rattle.std.proofs.Common.{arith, sym, ◌∙◌}
use Rattle.results.proofs.Walking.{counted-within-input, counted_none, counted-within, counted-out, counted-all}
use Rattle.results.proofs.tolerance.count.Goals as goal

pub loop-line-preserved-in-NoRow : goal.loop-line-preserved-in-NoRow
loop-line-preserved-in-NoRow c =
    counted_none c.loop-line.invariant c.in-Some.ensures.steps (sym c.in-NoRow.is ∙ c.stands.ensures)

pub overflow_add-rows : goal.overflow_add-rows
overflow_add-rows c = omega (arith, counted-within-input c.loop-line.invariant)

pub loop-line-preserved-in-Within : goal.loop-line-preserved-in-Within
loop-line-preserved-in-Within c =
    counted-within c.loop-line.invariant c.in-Some.ensures.steps (sym c.in-Within.is ∙ c.stands.ensures)

pub overflow_add-rows-in-Out : goal.overflow_add-rows-in-Out
overflow_add-rows-in-Out c = omega (arith, counted-within-input c.loop-line.invariant)

pub overflow_add-out : goal.overflow_add-out
overflow_add-out c = omega (arith, counted-within-input c.loop-line.invariant)

pub loop-line-preserved : goal.loop-line-preserved
loop-line-preserved c =
    counted-out c.loop-line.invariant c.in-Some.ensures.steps (sym c.in-Out.is ∙ c.stands.ensures)

pub returns : goal.returns
returns c =
    counted-all c.loop-line.invariant c.in-None.ensures.steps.0
