-- `concat`: the loop joins one more each turn.
use lib.ListN.{length, drop}
use Rattle.build.specs.Constructors.{concat_made}
use Rattle.build.proofs.Joins.{Joining}
use Rattle.build.proofs.Counts.concat.Given as goal

abbrev pub invariant-loop-n : goal.invariant-loop-n
invariant-loop-n l =
    Joining l.text (concat_made l.fn.self l.fn.table l.text l.nodes) (length l.fn.table) l.table l.made
    (drop l.n-index l.rest)
