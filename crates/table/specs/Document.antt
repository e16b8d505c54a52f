-- Documents: what a table unfolds to, without the nodes' numbers.
use Rattle.std.specs.Prelude.{ℕ, List}
use Rattle.table.specs.Node.{Way}
use Rattle.table.specs.Unfold.{Tree}

pub data Doc : Type 0 where
  nil : Doc
  append : Doc → Doc → Doc
  group : Doc → Doc
  flat_alt : Doc → Doc → Doc
  nest : Doc → ℕ → Way → Doc
  hardline : Doc
  text : List ℕ → ℕ → Doc
  annotated : Doc → ℕ → Doc
  union : Doc → Doc → Doc
  align : Doc → Doc
  fail : Doc

-- a tree without its numbers
unfoldable pub doc : Tree → Doc
doc (Tree.nil n) = nil
doc (Tree.append n a b) = append (doc a) (doc b)
doc (Tree.group n a) = group (doc a)
doc (Tree.flat_alt n a b) = flat_alt (doc a) (doc b)
doc (Tree.nest n a k way) = nest (doc a) k way
doc (Tree.hardline n) = hardline
doc (Tree.text n bytes cols) = text bytes cols
doc (Tree.annotated n a l) = annotated (doc a) l
doc (Tree.union n a b) = union (doc a) (doc b)
doc (Tree.align n a) = align (doc a)
doc (Tree.fail n) = fail
