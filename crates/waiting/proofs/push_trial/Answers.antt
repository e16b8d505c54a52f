-- `waiting::push_trial` meets its contract: the entry and what it saved, by `pushed_trial`.
-- Assumes nothing.
use Rattle.waiting.proofs.Laws.{pushed_trial}
use Rattle.waiting.proofs.push_trial.Goals as goal

pub returns : goal.returns
returns c =
    let start = c.args in
    pushed_trial start.work.now start.depth c.requires.0 c.requires.1 start.second start.saved _ _
    c.from-tag.ensures
    c.put_words.ensures
    c.put_words-2.ensures
    c.put_words.auto.work
