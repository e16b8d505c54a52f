-- `waiting::nearest` meets its contract: what waits from the nearest such entry on is the same at each height that the loop passes.
-- Assumes nothing.
use Rattle.waiting.specs.Area.{tag_word}
use Rattle.waiting.specs.Stack.{stack_of, from}
use mathlib.Core.Path.{◌≡◌}
use Prim.Native.Nat.{◌≤◌}
use Rattle.waiting.proofs.nearest.Given as goal

abbrev pub invariant-loop-d : goal.invariant-loop-d
invariant-loop-d l =
    (l.d ≤ l.depth) × (from (tag_word l.tag) (stack_of l.depth l.work) ≡ from (tag_word l.tag) (stack_of l.d l.work))
