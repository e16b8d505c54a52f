-- `buffer::clear_dirty_words` meets its contract: so far k blocks are 0. Assumes nothing.
use Rattle.std.proofs.Common.{◌*◌}
use Rattle.buffer.proofs.Put.{Filling}
use Rattle.buffer.proofs.clear_dirty_words.Given as goal

abbrev pub invariant-loop-k : goal.invariant-loop-k
invariant-loop-k l = Filling l.initial.words 0 0 (l.k * 128) l.words
