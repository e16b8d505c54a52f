-- The fit test as a walk of one list: the group's child, flat, then the waiting nodes, broken.
-- Steps are counted down: `left` is how many the limit still allows.
use Rattle.std.specs.Prelude.{ℕ, zero, suc, ◌+◌, Bool, true, false, List, [], ◌∷◌, leb}
use Rattle.table.specs.Node.{Node, nil, append, group, flat_alt, nest, hardline, text, annotated, union, align, fail, node_at}
use Rattle.rules.specs.Layout.{Mode, flat, broken}
use Rattle.machine.specs.Waiting.{Entry, node, trial, closing}

-- yes or no, with the steps left; or the node due when none is left
pub data Verdict : Type 0 where
  fits : ℕ → Verdict
  wide : ℕ → Verdict
  due : ℕ → Verdict

-- a node to walk, with its mode
pub data Item : Type 0 where
  item : ℕ → Mode → Item

-- the waiting nodes, all read as broken
abbrev pub reread : List Entry → List Item
reread [] = []
reread (node n i m ∷ w) = item n broken ∷ reread w
reread (trial x i m s ∷ w) = reread w
reread (closing n l ∷ w) = reread w

-- where one visit leads: on, with what is left to walk and the column; or to a verdict
pub data Walked : Type 0 where
  walk : List Item → ℕ → Walked
  say : Verdict → Walked

-- a Hardline says no while flat, yes after
abbrev pub hardline_fits : Mode → ℕ → Walked
hardline_fits broken left = say (fits left)
hardline_fits flat left = say (wide left)

-- a Text ending past width says no
abbrev pub text_fits : Bool → List Item → ℕ → ℕ → Walked
text_fits true is c left = walk is c
text_fits false is c left = say (wide left)

-- the first when broken, the second when flat
abbrev pub by_mode : Mode → ℕ → ℕ → ℕ
by_mode broken a b = a
by_mode flat a b = b

-- a visit at column c, with `left` steps after it
abbrev pub look : ℕ → Node → Mode → List Item → ℕ → ℕ → Walked
look width nil m is c left = walk is c
look width (append a b) m is c left = walk (item a m ∷ item b m ∷ is) c
look width (group a) m is c left = walk (item a m ∷ is) c
look width (flat_alt a b) m is c left = walk (item (by_mode m a b) m ∷ is) c
look width (nest a k way) m is c left = walk (item a m ∷ is) c
look width hardline m is c left = hardline_fits m left
look width (text o l cols) m is c left = text_fits (leb (c + cols) width) is (c + cols) left
look width (annotated a l) m is c left = walk (item a m ∷ is) c
look width (union a b) m is c left = walk (item b m ∷ is) c
look width (align a) m is c left = walk (item a m ∷ is) c
look width fail m is c left = say (wide left)

unfoldable pub fit : List ℕ → ℕ → ℕ → List Item → ℕ → Verdict
fit table width zero [] c = fits zero
fit table width zero (item n m ∷ is) c = due n
fit table width (suc left) [] c = fits (suc left)
fit table width (suc left) (item n m ∷ is) c =
    elim (look width (node_at table n) m is c left) [ walk is' c' ↦ fit table width left is' c' | say v ↦ v ]
