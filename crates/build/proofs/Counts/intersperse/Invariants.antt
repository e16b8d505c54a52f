-- `intersperse`: the loop joins a separator and one more each turn.
use lib.ListN.{length, drop}
use Rattle.build.specs.Parts.{separated}
use Rattle.build.specs.Constructors.{intersperse_made}
use Rattle.build.proofs.Joins.{Joining}
use Rattle.build.proofs.Counts.intersperse.Given as goal

abbrev pub invariant-loop-n : goal.invariant-loop-n
invariant-loop-n l =
    Joining l.text (intersperse_made l.fn.self l.fn.table l.text l.nodes l.separator.0) (length l.fn.table) l.table l.made
    (separated l.separator.0 (drop l.n-index l.rest))
