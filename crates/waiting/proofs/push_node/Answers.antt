-- `waiting::push_node` meets its contract: the four words at the next place are the entry, by `pushed`.
-- Assumes nothing.
use Rattle.waiting.proofs.Laws.{pushed_node}
use Rattle.waiting.proofs.push_node.Goals as goal

pub returns : goal.returns
returns c =
    pushed_node c.args.work.now c.args.depth c.requires.0 c.requires.1 c.args.due _ c.from-tag.ensures c.put_words.ensures
