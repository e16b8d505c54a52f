use Rattle.std.proofs.Common.{arith, sym, ◌∙◌}
use Rattle.results.proofs.Walking.{line_within, passed-by, note-within, found, found_none}
use Rattle.results.proofs.tolerance.next_out.Goals as goal

pub overflow_add-end : goal.overflow_add-end
overflow_add-end c =
    omega (arith, line_within c.loop-line.invariant c.in-Some.ensures.steps)

pub overflow_add-result : goal.overflow_add-result
overflow_add-result c =
    omega (arith, line_within c.loop-line.invariant c.in-Some.ensures.steps, note-within c.loop-line.invariant c.in-Some.ensures.steps c.part_end-note.result (omega (arith, c.part_end-note.ensures)))

pub returns-in-Out : goal.returns-in-Out
returns-in-Out c =
    found c.loop-line.invariant c.in-Some.ensures.steps c.part_end-note.result (omega (arith, c.part_end-note.ensures)) (sym c.in-Out.is ∙ c.stands.ensures)

pub overflow_add-start : goal.overflow_add-start
overflow_add-start c =
    omega (arith, line_within c.loop-line.invariant c.in-Some.ensures.steps)

pub loop-line-preserved : goal.loop-line-preserved
loop-line-preserved c =
    passed-by c.loop-line.invariant c.in-Some.ensures.steps _ c.stands.ensures c.in_default.not-Out

pub returns : goal.returns
returns c =
    found_none c.loop-line.invariant c.in-None.ensures.steps.0
