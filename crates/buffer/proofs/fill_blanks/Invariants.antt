-- `buffer::fill_blanks` meets its contract: so far k blocks of blanks stand from `at` on. Assumes nothing.
use Rattle.std.proofs.Common.{◌*◌}
use Rattle.buffer.proofs.Put.{Filling}
use Rattle.buffer.proofs.fill_blanks.Given as goal

abbrev pub invariant-loop-k : goal.invariant-loop-k
invariant-loop-k l = Filling l.initial.dst l.at 32 (l.k * 32) l.dst
