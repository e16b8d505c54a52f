-- `pursegable_make` meets its contract: too few words, an unknown constructor, or what the constructor answers.
-- Assumes nothing.
use mathlib.Core.Path.{sym, ◌∙◌}
use Rattle.pursegable.proofs.Making.{makes-short, makes_unknown, makes-left}
use Rattle.pursegable.proofs.building.pursegable_make.Goals as goal

pub returns-then-counts-lt-COUNTS_WORDS : goal.returns-then-counts-lt-COUNTS_WORDS
returns-then-counts-lt-COUNTS_WORDS c = makes-short _ _ _ _ _ _ _ c.if-counts-lt-COUNTS_WORDS.true

pub returns-then-not-known : goal.returns-then-not-known
returns-then-not-known c = makes_unknown _ _ _ _ _ _ _ c.if-counts-lt-COUNTS_WORDS.false (sym c.known.ensures ∙ c.if-not-known.true)

pub returns : goal.returns
returns c =
    let is_known = sym c.known.ensures ∙ c.if-not-known.false in
    makes-left _ _ _ _ _ _ _ c.if-counts-lt-COUNTS_WORDS.false is_known c.counts_of.ensures c.any-made.ensures c.settle.ensures
