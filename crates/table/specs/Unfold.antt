-- What a table unfolds to: a tree, with each node's number in it for the places. Document.antt has it without the numbers.
use Rattle.std.specs.Prelude.{ℕ, zero, suc, ◌-◌, ◌/◌, List, [], ◌∷◌, ◌++◌, get_or, take, drop, length}
use Rattle.table.specs.Node.{Way, Node, node_at}

-- the number of its node first; a Text has its bytes
pub data Tree : Type 0 where
  nil : ℕ → Tree
  append : ℕ → Tree → Tree → Tree
  group : ℕ → Tree → Tree
  flat_alt : ℕ → Tree → Tree → Tree
  nest : ℕ → Tree → ℕ → Way → Tree
  hardline : ℕ → Tree
  text : ℕ → List ℕ → ℕ → Tree
  annotated : ℕ → Tree → ℕ → Tree
  union : ℕ → Tree → Tree → Tree
  align : ℕ → Tree → Tree
  fail : ℕ → Tree

-- the tree of node n; `at` has the trees of the nodes below it
abbrev pub tree_of : List ℕ → (ℕ → Tree) → ℕ → Node → Tree
tree_of bytes at n Node.nil = nil n
tree_of bytes at n (Node.append a b) = append n (at a) (at b)
tree_of bytes at n (Node.group a) = group n (at a)
tree_of bytes at n (Node.flat_alt a b) = flat_alt n (at a) (at b)
tree_of bytes at n (Node.nest a k way) = nest n (at a) k way
tree_of bytes at n Node.hardline = hardline n
tree_of bytes at n (Node.text o l c) = text n (take l (drop o bytes)) c
tree_of bytes at n (Node.annotated a l) = annotated n (at a) l
tree_of bytes at n (Node.union a b) = union n (at a) (at b)
tree_of bytes at n (Node.align a) = align n (at a)
tree_of bytes at n Node.fail = fail n

-- node n, where `lower` lists the trees of the nodes below it
unfoldable pub tree_over : List ℕ → List ℕ → ℕ → List Tree → Tree
tree_over table bytes n lower = tree_of bytes (λ i. get_or lower i (nil 0)) n (node_at table n)

-- the trees of the nodes 0 to n - 1
unfoldable pub trees : List ℕ → List ℕ → ℕ → List Tree
trees table bytes zero = []
trees table bytes (suc n) = let lower = trees table bytes n in lower ++ (tree_over table bytes n lower ∷ [])

-- what node n unfolds to
unfoldable pub tree : List ℕ → List ℕ → ℕ → Tree
tree table bytes n = tree_over table bytes n (trees table bytes n)

-- the root is the last node
abbrev pub root : List ℕ → ℕ
root table = length table / 4 - 1
