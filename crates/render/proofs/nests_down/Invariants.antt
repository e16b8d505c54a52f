-- `render::nests_down` meets its contract: the loop carries `Falling`, each Nest by `falls-next`.
-- Assumes nothing.
use Rattle.render.proofs.Again.{Falling}
use Rattle.render.proofs.nests_down.Given as goal

abbrev pub invariant-loop-left : goal.invariant-loop-left
invariant-loop-left l = Falling l.table l.steps l.initial.due l.left l.due
