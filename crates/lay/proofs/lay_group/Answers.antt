-- `lay::lay_group` meets its contract: a group met broken goes as the fit test says, by `group-goes`.
-- Assumes nothing.
use Rattle.lay.proofs.Arms.{group-goes}
use Rattle.waiting.proofs.Laws.{stack_same, same_less}
use Rattle.lay.proofs.lay_group.Goals as goal

pub returns-in-Ok : goal.returns-in-Ok
returns-in-Ok c =
    let f = c.fitting.ensures in
    group-goes c.args.due.indent.0 c.args.s c.if-due-ne0.false (stack_same _ _ _ (same_less _ 1024 _ _ c.requires.deep f.same)) f _ c.in-Ok.is
