-- `reasons::fill` meets its contract: the summaries stand past what waits.
-- Assumes nothing.
use Rattle.reasons.proofs.Walk.{filled}
use Rattle.reasons.proofs.fill.Goals as goal

pub returns : goal.returns
returns c =
    filled c.requires _ c.summarize.auto.memo c.summarize.ensures
