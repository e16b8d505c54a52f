-- `pursegable_intersperse` meets its contract: too few words, or what the constructor answers.
-- Assumes nothing.
use Rattle.pursegable.proofs.Making.{built-short, built-left}
use Rattle.pursegable.proofs.building.pursegable_intersperse.Goals as goal

pub returns-then-counts-lt-COUNTS_WORDS : goal.returns-then-counts-lt-COUNTS_WORDS
returns-then-counts-lt-COUNTS_WORDS c = built-short _ _ _ _ c.if-counts-lt-COUNTS_WORDS.true

pub returns : goal.returns
returns c =
    built-left _ _ _ _ c.if-counts-lt-COUNTS_WORDS.false c.counts_of.ensures c.intersperse-made.ensures c.settle.ensures
