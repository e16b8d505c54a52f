-- `buffer::fill` meets its contract: so far the first elements of the part are v. Assumes nothing.
use Rattle.std.proofs.Common.{◌≡◌, ◌++◌, drop, replicate}
use Rattle.buffer.proofs.fill.Given as goal

abbrev pub invariant-loop-x : goal.invariant-loop-x
invariant-loop-x g l = l.x-items ≡ replicate l.x-index l.v ++ drop l.x-index l.initial.x-items
