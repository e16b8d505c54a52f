-- A node of the table: four words, kind a b c.
use Rattle.std.specs.Prelude.{ℕ, zero, suc, ◌+◌, ◌*◌, List, get_or, eqb}
use Rattle.choice.specs.Pick.{pick}

-- Nest adds, or subtracts
pub data Way : Type 0 where
  adds subtracts : Way

abbrev pub way_of : ℕ → Way
way_of zero = adds
way_of (suc c) = subtracts

-- what a node says; a child is a node's number
pub data Node : Type 0 where
  nil : Node
  append : ℕ → ℕ → Node
  group : ℕ → Node
  flat_alt : ℕ → ℕ → Node
  nest : ℕ → ℕ → Way → Node
  hardline : Node
  text : ℕ → ℕ → ℕ → Node
  annotated : ℕ → ℕ → Node
  union : ℕ → ℕ → Node
  align : ℕ → Node
  fail : Node

-- what four words say
abbrev pub node_of : ℕ → ℕ → ℕ → ℕ → Node
node_of k a b c =
    pick (eqb k 0) nil
    (pick (eqb k 1) (append a b)
    (pick (eqb k 2) (group a)
    (pick (eqb k 3) (flat_alt a b)
    (pick (eqb k 4) (nest a b (way_of c))
    (pick (eqb k 5) hardline
    (pick (eqb k 6) (text a b c)
    (pick (eqb k 7) (annotated a b)
    (pick (eqb k 8) (union a b)
    (pick (eqb k 9) (align a)
    fail)))))))))

-- word i of node n
abbrev pub word : List ℕ → ℕ → ℕ → ℕ
word table n i = get_or table (n * 4 + i) 0

-- the node with number n
unfoldable pub node_at : List ℕ → ℕ → Node
node_at table n = node_of (word table n 0) (word table n 1) (word table n 2) (word table n 3)
