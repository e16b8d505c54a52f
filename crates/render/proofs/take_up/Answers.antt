-- `render::take_up` meets its contract: a node on top is due, by `rise-node`; else it is what `take_up_ends` promises.
-- Assumes nothing.
use mathlib.Core.Path.{sym, ◌∙◌}
use Rattle.render.proofs.Rising.{rise-start, rise-node}
use Rattle.render.proofs.take_up.Goals as goal

pub returns-in-Node : goal.returns-in-Node
returns-in-Node c =
    rise-node (rise-start _ _ _ c.requires) c.if-state-gt0.true _ (sym c.tag_at.ensures ∙ c.in-Node.is) c.due_at.ensures
