-- What readers of a table need of it: children below their parents, Nest amounts, and Text ranges and columns in bounds. A node of a valid
-- table is sound (proofs/Sound.antt); a sound one may still have a wrong unused word, or bytes that are no UTF-8.
use Rattle.std.specs.Prelude.{ℕ, ◌+◌, ◌≤◌, ◌<◌, List}
use Rattle.table.specs.Node.{Node, nil, append, group, flat_alt, nest, hardline, text, annotated, union, align, fail, node_at}

-- node n is sound, over a text of so many bytes
abbrev pub Sound : ℕ → ℕ → Node → Type 0
Sound len n nil = Unit {0}
Sound len n (append a b) = (a < n) × (b < n)
Sound len n (group a) = a < n
Sound len n (flat_alt a b) = (a < n) × (b < n)
Sound len n (nest a k way) = (a < n) × (k ≤ 1000)
Sound len n hardline = Unit {0}
Sound len n (text o l c) = (o + l ≤ len) × (c ≤ l)
Sound len n (annotated a l) = a < n
Sound len n (union a b) = (a < n) × (b < n)
Sound len n (align a) = a < n
Sound len n fail = Unit {0}

-- every one of the first N nodes is sound
abbrev pub AllSound : List ℕ → ℕ → ℕ → Type 0
AllSound table len N = (n : ℕ) → n < N → Sound len n (node_at table n)
