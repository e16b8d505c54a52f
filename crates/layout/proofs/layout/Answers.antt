-- `layout::layout` meets its contract: what was decided, with the buffers cleared past what is used.
-- Assumes nothing.
use Rattle.layout.proofs.Whole.{called}
use Rattle.layout.proofs.layout.Goals as goal

pub returns : goal.returns
returns c =
    let decided = c.decide-answer in
    called
    decided.new.work
    decided.ensures
    decided.auto.out
    decided.auto.events
    decided.auto.work
    (rw c.from-report.ensures at c.fill_from.ensures)
    (rw c.from-report.ensures at c.fill_from-2.ensures)
    c.clear_dirty_words.ensures
