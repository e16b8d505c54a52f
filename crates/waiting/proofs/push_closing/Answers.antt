-- `waiting::push_closing` meets its contract: the four words at the next place are the entry, by `pushed`.
-- Assumes nothing.
use Rattle.waiting.proofs.Laws.{pushed_closing}
use Rattle.waiting.proofs.push_closing.Goals as goal

pub returns : goal.returns
returns c =
    pushed_closing c.args.work.now c.args.depth c.requires.0 c.requires.1 c.args.node.0 c.args.label _ c.from-tag.ensures c.put_words.ensures
