-- So far the first k records are those that the words hold, and the rest is as it was.
use Rattle.std.proofs.Common.{◌≡◌}
use Rattle.events.specs.Records.{record_at}
use Rattle.events.proofs.Filled.{filled}
use Rattle.events.proofs.publish.Given as goal

abbrev pub invariant-loop-k : goal.invariant-loop-k
invariant-loop-k l = l.out ≡ filled (record_at l.words l.used) l.initial.out l.k
