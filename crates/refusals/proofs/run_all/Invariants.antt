-- `refusals::run_all` is safe and ends. Assumes nothing.
use Rattle.std.proofs.Common.{length}
use Rattle.refusals.proofs.run_all.Given as goal

abbrev pub decreases-loop-end : goal.decreases-loop-end
decreases-loop-end g l = length l.rest
