-- `waiting::next_indent` meets its contract: its own where no node waits, else that of the next waiting node.
-- Assumes nothing.
use mathlib.Core.Path.{ap, ◌∙◌}
use Rattle.waiting.proofs.Laws.{indent_own, indent-next}
use Rattle.waiting.proofs.next_indent.Goals as goal

pub returns-in-Some : goal.returns-in-Some
returns-in-Some c =
    ap (λ due. due.indent.0) c.due_at.ensures ∙ indent-next _ _ _ _ c.nearest.ensures c.in-Some.is

pub returns-in-None : goal.returns-in-None
returns-in-None c = indent_own _ _ _ c.nearest.ensures c.in-None.is
