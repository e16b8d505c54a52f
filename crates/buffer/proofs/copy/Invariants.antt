-- `buffer::copy` meets its contract: so far the first i elements of the part stand from `at` on. Assumes nothing.
use Rattle.std.proofs.Common.{◌≡◌, take, drop}
use Rattle.buffer.specs.Run.{put}
use Rattle.buffer.proofs.copy.Given as goal

abbrev pub invariant-loop-i : goal.invariant-loop-i
invariant-loop-i g l = l.dst ≡ put l.initial.dst l.at (take l.i (drop l.from l.src))
