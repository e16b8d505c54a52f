-- A node of the table by its kind word, as code reads it; and what a sound node is over a longer text.
-- Assumes nothing.
use mathlib.Core.Path.{◌≡◌}
use Prim.Native.Nat.{ℕ, ◌+◌, ◌*◌, ◌≤◌}
use mathlib.Core.List.{List}
use native.Mathlib.Omega.{arith}
use native.Mathlib.Nat.{add-zero}
use lib.ListN.{get_or}
use borrow.Author.Tests.{ne_eqb}
use Rattle.table.specs.Node.{Node, nil, append, group, flat_alt, nest, hardline, text, annotated, union, align, fail, node_of, node_at}
use Rattle.table.specs.Sound.{Sound}

-- the node, once its kind is known
pub node-is : (table : List ℕ) (n k : ℕ) → get_or table (n * 4) 0 ≡ k → node_at table n ≡ node_of k (get_or table (n * 4 + 1) 0) (get_or table (n * 4 + 2) 0) (get_or table (n * 4 + 3) 0)
unfolding node_at
node-is table n k e = rw (add-zero, e)

-- a kind that is none of 0 to 9
pub node-fail : (table : List ℕ) (n : ℕ)
    → (get_or table (n * 4) 0 ≡ 0 → ⊥) → (get_or table (n * 4) 0 ≡ 1 → ⊥) → (get_or table (n * 4) 0 ≡ 2 → ⊥) → (get_or table (n * 4) 0 ≡ 3 → ⊥) → (get_or table (n * 4) 0 ≡ 4 → ⊥)
    → (get_or table (n * 4) 0 ≡ 5 → ⊥) → (get_or table (n * 4) 0 ≡ 6 → ⊥) → (get_or table (n * 4) 0 ≡ 7 → ⊥) → (get_or table (n * 4) 0 ≡ 8 → ⊥) → (get_or table (n * 4) 0 ≡ 9 → ⊥)
    → node_at table n ≡ fail
unfolding node_at
node-fail table n h0 h1 h2 h3 h4 h5 h6 h7 h8 h9 =
    rw (add-zero, ne_eqb _ _ h0, ne_eqb _ _ h1, ne_eqb _ _ h2, ne_eqb _ _ h3, ne_eqb _ _ h4, ne_eqb _ _ h5, ne_eqb _ _ h6, ne_eqb _ _ h7, ne_eqb _ _ h8, ne_eqb _ _ h9)

-- the columns of a sound Text
pub text-columns : (table : List ℕ) (len n : ℕ) → get_or table (n * 4) 0 ≡ 6 → Sound len n (node_at table n) → get_or table (n * 4 + 3) 0 ≤ len
text-columns table len n e s = let g = rw (node-is table n 6 e) at s in omega (arith, g.0, g.1)

-- what is sound over a text is sound over a longer one
pub sound_longer : (len len' n : ℕ) → len ≤ len' → (nd : Node) → Sound len n nd → Sound len' n nd
sound_longer len len' n h nil s = tt
sound_longer len len' n h (append a b) s = s
sound_longer len len' n h (group a) s = s
sound_longer len len' n h (flat_alt a b) s = s
sound_longer len len' n h (nest a k way) s = s
sound_longer len len' n h hardline s = tt
sound_longer len len' n h (text o l c) s = (omega (arith, s.0), s.1)
sound_longer len len' n h (annotated a l) s = s
sound_longer len len' n h (union a b) s = s
sound_longer len len' n h (align a) s = s
sound_longer len len' n h fail s = tt
