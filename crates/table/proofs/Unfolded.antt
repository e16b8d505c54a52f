-- What a node unfolds to, by what its children unfold to, and on how much of table and text that depends.
--     tree-node      the tree of a sound node: a reader of the table needs nothing else of `tree`
--     tree_alike     where nodes and text bytes agree, so do the trees
--     tree_prefix    the same, of tables that agree on the words up to node n
--     tree-append    words and bytes behind the used ones change nothing
--     tree_lent      node n is laid out by lending the table up to n
-- Assumes nothing.
use Prim.Native.Nat.{ℕ, zero, suc, ◌+◌, ◌*◌, ◌≤◌, ◌<◌}
use native.Mathlib.Omega.{arith}
use native.Mathlib.Numerals.{add-one}
use native.Mathlib.Nat.{zero-add, suc-add, not-suc-le-zero}
use native.Mathlib.Decide.{dec_lt}
use mathlib.Core.Path.{◌≡◌, refl, sym, ap, ap₂, ◌∙◌}
use mathlib.Core.List.{List, [], ◌∷◌, ◌++◌}
use lib.ListN.{length, get_or, take, drop, length-append, get_or-append}
use lib.Seq.{get_or_at, get_or-take, take-take, take-append-le, take-nil}
use Rattle.table.specs.Node.{Node, node_of, node_at, word}
use Rattle.table.specs.Unfold.{Tree, nil, append, group, flat_alt, nest, text, annotated, union, align, tree_of, tree_over, trees, tree}
use Rattle.table.specs.Sound.{Sound, AllSound}

-- ---- a part of the text

part-front : (o l : ℕ) (bs : List ℕ) → take l (drop o bs) ≡ drop o (take (o + l) bs)
part-front zero l bs = rw zero-add
part-front (suc o) l [] = rw (take-nil l, take-nil (suc o + l))
part-front (suc o) l (b ∷ bs) = rw suc-add (part-front o l bs)

-- a part that ends in a front that two texts share
pub part_same : (len o l : ℕ) (bs bs' : List ℕ) → take len bs ≡ take len bs' → o + l ≤ len → take l (drop o bs) ≡ take l (drop o bs')
part_same len o l bs bs' e h =
    let front : take (o + l) bs ≡ take (o + l) bs' = sym (take-take (o + l) len bs h) ∙ ap (take (o + l)) e ∙ take-take (o + l) len bs' h in
    part-front o l bs ∙ ap (drop o) front ∙ sym (part-front o l bs')

-- ---- a part of the table

pub word_same : (m i j : ℕ) (table table' : List ℕ) → i * 4 + j < m → take m table ≡ take m table' → word table i j ≡ word table' i j
word_same m i j table table' h e =
    sym (get_or-take m table (i * 4 + j) 0 h) ∙ ap (λ (t : List ℕ). get_or t (i * 4 + j) 0) e ∙ get_or-take m table' (i * 4 + j) 0 h

-- a node that ends in a front that two tables share
pub node-same : (m i : ℕ) (table table' : List ℕ) → i * 4 + 4 ≤ m → take m table ≡ take m table' → node_at table i ≡ node_at table' i
unfolding node_at
node-same m i table table' h e =
    let w : (j : ℕ) → j < 4 → word table i j ≡ word table' i j = λ j l. word_same m i j table table' (omega arith) e in
    λ d. node_of (w 0 (omega arith) d) (w 1 (omega arith) d) (w 2 (omega arith) d) (w 3 (omega arith) d)

-- ---- one node

-- a sound node is made of what stands at its children and of its part of the text alone
node_alike : (len n : ℕ) (bs bs' : List ℕ) (f g : ℕ → Tree) → take len bs ≡ take len bs' → ((i : ℕ) → i < n → f i ≡ g i) → (x : Node) → Sound len n x → tree_of bs f n x ≡ tree_of bs' g n x
node_alike len n bs bs' f g t e Node.nil h = refl
node_alike len n bs bs' f g t e (Node.append a b) h = ap₂ (append n) (e a h.0) (e b h.1)
node_alike len n bs bs' f g t e (Node.group a) h = ap (group n) (e a h)
node_alike len n bs bs' f g t e (Node.flat_alt a b) h = ap₂ (flat_alt n) (e a h.0) (e b h.1)
node_alike len n bs bs' f g t e (Node.nest a k way) h = ap (λ (x : Tree). nest n x k way) (e a h.0)
node_alike len n bs bs' f g t e Node.hardline h = refl
node_alike len n bs bs' f g t e (Node.text o l c) h = ap (λ (p : List ℕ). text n p c) (part_same len o l bs bs' t h.0)
node_alike len n bs bs' f g t e (Node.annotated a l) h = ap (λ (x : Tree). annotated n x l) (e a h)
node_alike len n bs bs' f g t e (Node.union a b) h = ap₂ (union n) (e a h.0) (e b h.1)
node_alike len n bs bs' f g t e (Node.align a) h = ap (align n) (e a h)
node_alike len n bs bs' f g t e Node.fail h = refl

module _ (table bytes : List ℕ) where
  length-trees : (n : ℕ) → length (trees table bytes n) ≡ n
  unfolding trees
  length-trees zero = refl
  length-trees (suc n) = length-append (trees table bytes n) _ ∙ ap (λ (m : ℕ). m + 1) (length-trees n) ∙ add-one n

  -- the trees below n, listed, are the trees
  pub trees_at : (n i : ℕ) → i < n → get_or (trees table bytes n) i (nil 0) ≡ tree table bytes i
  unfolding trees tree
  trees_at zero i h = absurd (not-suc-le-zero h)
  trees_at (suc n) i h = by (λ l. trees_at n i l) (dec_lt i n)
    where
      by : (i < n → get_or (trees table bytes n) i (nil 0) ≡ tree table bytes i) → Dec (i < n) → get_or (trees table bytes n ++ (tree_over table bytes n (trees table bytes n) ∷ [])) i (nil 0) ≡ tree_over table bytes i (trees table bytes i)
      by ih (yes l) = get_or-append (trees table bytes n) _ (nil 0) i (rw (length-trees n) l) ∙ ih l
      by ih (no l) =
          let e : n ≡ i = omega arith in
          get_or_at (trees table bytes n) _ [] (nil 0) i (length-trees n ∙ e) ∙ ap (λ (m : ℕ). tree_over table bytes m (trees table bytes m)) e

  pub tree-node : (n len : ℕ) → Sound len n (node_at table n) → tree table bytes n ≡ tree_of bytes (tree table bytes) n (node_at table n)
  unfolding tree tree_over
  tree-node n len h = node_alike len n bytes bytes _ _ refl (trees_at n) (node_at table n) h

-- ---- two tables and two texts

module _ (table table' bytes bytes' : List ℕ) (len : ℕ) (same_text : take len bytes ≡ take len bytes') where
  pub tree_alike : (N : ℕ) → ((i : ℕ) → i < N → node_at table i ≡ node_at table' i) → AllSound table len N → (n : ℕ) → n < N → tree table bytes n ≡ tree table' bytes' n
  tree_alike zero e v n h = absurd (not-suc-le-zero h)
  tree_alike (suc N) e v n h =
      let below = tree_alike N (λ i l. e i (omega arith)) (λ i l. v i (omega arith)) in
      let sound' : Sound len n (node_at table' n) = rw (e n h) at (v n h) in
      tree-node table bytes n len (v n h)
      ∙ node_alike len n bytes bytes' (tree table bytes) (tree table' bytes') same_text (λ i l. below i (omega arith)) (node_at table n) (v n h)
      ∙ ap (tree_of bytes' (tree table' bytes') n) (e n h)
      ∙ sym (tree-node table' bytes' n len sound')

  -- the first m words agree, and node n ends there
  pub tree_prefix : (n m : ℕ) → n * 4 + 4 ≤ m → take m table ≡ take m table' → AllSound table len (suc n) → tree table bytes n ≡ tree table' bytes' n
  tree_prefix n m h e v = tree_alike (suc n) (λ i l. node-same m i table table' (omega arith) e) v n (omega arith)

module _ (table bytes : List ℕ) (n : ℕ) where
  pub tree-append : (words more : List ℕ) → n * 4 + 4 ≤ length table → AllSound table (length bytes) (suc n) → tree table bytes n ≡ tree (table ++ words) (bytes ++ more) n
  tree-append words more h v =
      tree_prefix table (table ++ words) bytes (bytes ++ more) (length bytes) (sym (take-append-le (length bytes) bytes more (omega arith))) n (length table) h
      (sym (take-append-le (length table) table words (omega arith))) v

  pub tree_lent : (len : ℕ) → AllSound table len (suc n) → tree table bytes n ≡ tree (take (n * 4 + 4) table) bytes n
  tree_lent len v = tree_prefix table (take (n * 4 + 4) table) bytes bytes len refl n (n * 4 + 4) (omega arith) (sym (take-take (n * 4 + 4) (n * 4 + 4) table (omega arith))) v
