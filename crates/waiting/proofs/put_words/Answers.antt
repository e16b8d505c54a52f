-- `waiting::put_words` meets its contract: four stores are one run of four words.
-- Assumes nothing.
use Rattle.waiting.proofs.Laws.{stores4}
use Rattle.waiting.proofs.put_words.Goals as goal

pub returns : goal.returns
returns c = stores4 c.args.work.now c.args.at c.args.first c.args.second c.args.third c.args.fourth
