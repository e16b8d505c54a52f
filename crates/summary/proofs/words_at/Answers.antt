-- `summary::words_at` meets its contract: the node is that of its four words. Assumes nothing.
use native.Mathlib.Nat.{add-zero}
use Rattle.table.specs.Node.{node_at}
use Rattle.summary.proofs.words_at.Goals as goal

pub returns : goal.returns
unfolding node_at
returns c = record { node = rw add-zero }
