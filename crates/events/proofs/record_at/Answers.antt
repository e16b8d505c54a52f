-- Past the used ones, or past the words, there is none; else its words are read.
use borrow.Author.Tests.{le-ltb, lt-ltb}
use Rattle.events.specs.Records.{event_at, record_at}
use Rattle.events.proofs.record_at.Goals as goal
use Rattle.events.proofs.record_at.Goals.{then-used-k-via-then-used-k, then-used-k-via-else-used-k+then-words-k}

pub returns-then-used-k : goal.returns-then-used-k
unfolding record_at
returns-then-used-k c =
    elim c.then-used-k.branch [
      | then-used-k-via-then-used-k w ↦ simp (le-ltb _ _ w.if-used-k.true) c.none.ensures
      | then-used-k-via-else-used-k+then-words-k w ↦ simp (lt-ltb _ _ w.if-used-k.false, le-ltb _ _ w.if-words-k.true) c.none.ensures
    ]

pub returns : goal.returns
unfolding record_at event_at
returns c = simp (lt-ltb _ _ c.if-used-k.false, lt-ltb _ _ c.if-words-k.false)
