-- `render::take_up_ends` meets its contract: the loop carries `Rising`, what waits leads from here where it led from the start.
-- Assumes nothing.
use Rattle.render.proofs.Rising.{Rising}
use Rattle.render.proofs.take_up_ends.Given as goal

abbrev pub invariant-loop-s : goal.invariant-loop-s
invariant-loop-s l = Rising l.initial.events l.work l.initial.s l.events l.s

abbrev pub decreases-loop-s : goal.decreases-loop-s
decreases-loop-s l = l.s.depth
