-- What constructors build on: the nodes that are counted and the text bytes that are used, both of which only grow.
use Rattle.std.specs.Prelude.{ℕ, ◌+◌, ◌*◌, List, [], ◌∷◌, ◌++◌, length, take, drop}
use Rattle.build.specs.declared.Counts.{Counts}

-- four words for each node that is counted, and the bytes that are used
pub record Draft : Type 0 where
  pub counts : Counts
  pub table : List ℕ
  pub text : List ℕ

-- a draft and the node that was asked for
pub record Built : Type 0 where
  pub draft : Draft
  pub node : ℕ

abbrev pub counts_of : ℕ → ℕ → Counts
counts_of nodes bytes = record { nodes = nodes; bytes = bytes }

abbrev pub draft_of : ℕ → ℕ → List ℕ → List ℕ → Draft
draft_of nodes bytes table text = record { counts = counts_of nodes bytes; table = table; text = text }

-- the counted part of a lent table and a lent text
unfoldable pub counted : Counts → List ℕ → List ℕ → Draft
counted c table text = record { counts = c; table = take (c.nodes * 4) table; text = take c.bytes text }

-- an older node
abbrev pub older : Draft → ℕ → Built
older s n = record { draft = s; node = n }

-- one node more
abbrev pub add : Draft → ℕ → ℕ → ℕ → ℕ → Built
add s k a b c =
    record { draft = draft_of (s.counts.nodes + 1) s.counts.bytes (s.table ++ (k ∷ a ∷ b ∷ c ∷ [])) s.text; node = s.counts.nodes }

-- bytes more
abbrev pub write : Draft → List ℕ → Draft
write s bytes = draft_of s.counts.nodes (s.counts.bytes + length bytes) s.table (s.text ++ bytes)

-- a list laid over the front of another
abbrev pub over : List ℕ → List ℕ → List ℕ
over xs ys = xs ++ drop (length xs) ys
