-- `strip::marks::marked` meets its contract: the marks open after what is left of the events are those after all of them. Assumes nothing.
use Rattle.std.proofs.Common.{◌≡◌, ◌*◌, ◌≤◌, drop}
use Rattle.strip.specs.Marks.{open_at}
use Rattle.strip.proofs.marks.marked.Given as goal

abbrev pub invariant-loop-offset : goal.invariant-loop-offset
invariant-loop-offset l = (l.«open» ≤ l.offset-index) × (open_at l.«open» (drop (l.offset-index * 3) l.events) l.at ≡ open_at 0 l.events l.at)
