-- `pursegable_block` meets its contract: too few words, too many flags, or what the block layout answers.
-- Assumes nothing.
use Rattle.pursegable.proofs.Making.{built-short}
use Rattle.pursegable.proofs.Flags.{block_many, block-left}
use Rattle.pursegable.proofs.building.pursegable_block.Goals as goal

pub returns-then-counts-lt-COUNTS_WORDS : goal.returns-then-counts-lt-COUNTS_WORDS
returns-then-counts-lt-COUNTS_WORDS c = built-short _ _ _ _ c.if-counts-lt-COUNTS_WORDS.true

pub returns-then-n-gt-AFFIXES : goal.returns-then-n-gt-AFFIXES
returns-then-n-gt-AFFIXES c =
    block_many _ _ _ c.args.nests.now _ _ _ c.if-counts-lt-COUNTS_WORDS.false c.if-n-gt-AFFIXES.true

pub returns : goal.returns
returns c =
    let nests = c.args.nests.now in
    block-left _ _ _ nests _ _ _ c.if-counts-lt-COUNTS_WORDS.false c.counts_of.ensures c.set_flags.ensures c.format-made.ensures c.settle.ensures
