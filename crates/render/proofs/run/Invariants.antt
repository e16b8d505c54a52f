-- `render::run` meets its contract: the loop carries `Going`, the run from here is the layout from the root; its measure falls by `going_less`.
-- Assumes nothing.
use Rattle.machine.specs.Well.{weight}
use Rattle.waiting.specs.Stack.{top, stack_of}
use Rattle.render.proofs.Going.{Going}
use mathlib.Core.List.{◌∷◌}
use Prim.Native.Nat.{◌+◌, ◌*◌}
use Rattle.render.proofs.run.Given as goal

abbrev pub invariant-loop-s : goal.invariant-loop-s
invariant-loop-s l =
    Going l.table l.text l.width l.limit l.nodes l.initial.out l.initial.events l.initial.work l.out l.events l.work l.due l.s

abbrev pub decreases-loop-s : goal.decreases-loop-s
decreases-loop-s l =
    3 * l.s.left + weight (top l.due ∷ stack_of l.s.depth l.work)
