-- The summary of a node read in one mode: what a fit test passes on its way through the node, whatever the node unfolds to. It says whether the
-- walk of rules/specs/Why.antt comes through, from any column and for any width up to 65,536, and at which column.
-- Assumes nothing.
use Rattle.std.specs.Prelude.{ℕ, ◌+◌, leb}
use Rattle.choice.specs.Pick.{pick}
use Rattle.table.specs.Unfold.{Tree, nil, append, group, flat_alt, nest, hardline, text, annotated, union, align, fail}
use Rattle.rules.specs.Layout.{Mode, flat, broken}

-- `no_text`: the walk always comes through, past the width too.
-- `texts`: it passes Texts of so many columns together, and comes through if the last of them doesn't end past width.
-- `never`: it never comes through: it stops at a Fail or a Hardline, or its Texts have more columns than any width.
pub data Summary : Type 0 where
  no_text : Summary
  texts : ℕ → Summary
  never : Summary

-- Texts of so many columns
abbrev pub wide : ℕ → Summary
wide k = pick (leb k 65536) (texts k) never

-- one part after another
abbrev pub join : Summary → Summary → Summary
join no_text y = y
join (texts a) no_text = texts a
join (texts a) (texts b) = wide (a + b)
join (texts a) never = never
join never y = never

-- the fit test's way through a node: Union takes its second arm, FlatAlt goes by mode
unfoldable pub summary : Tree → Mode → Summary
summary (nil n) m = no_text
summary (append n a b) m = join (summary a m) (summary b m)
summary (group n a) m = summary a m
summary (flat_alt n a b) flat = summary b flat
summary (flat_alt n a b) broken = summary a broken
summary (nest n a k way) m = summary a m
summary (hardline n) m = never
summary (text n bs cols) m = wide cols
summary (annotated n a l) m = summary a m
summary (union n a b) m = summary b m
summary (align n a) m = summary a m
summary (fail n) m = never

-- ---- in one word

abbrev pub word_of : Summary → ℕ
word_of no_text = 0
word_of (texts k) = k + 1
word_of never = 65538
