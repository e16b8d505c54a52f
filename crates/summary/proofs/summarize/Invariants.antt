-- `summary::summarize` meets its contract: the nodes before n have their summaries, and the words past all nodes' places are as they were.
-- Assumes nothing.
use Rattle.std.proofs.Common.{◌≡◌, ℕ, ◌*◌, ◌/◌, ◌≤◌, length, get_or}
use Rattle.summary.specs.Promise.{Summed}
use Rattle.summary.proofs.summarize.Given as goal

abbrev pub invariant-loop-n : goal.invariant-loop-n
invariant-loop-n l =
    record {
      summed : Summed l.table l.memo l.n;
      size : length l.memo ≡ length l.initial.memo;
      rest : (i : ℕ) → length l.table / 4 * 2 ≤ i → get_or l.memo i 0 ≡ get_or l.initial.memo i 0;
    }
