-- The answer at each way out of the code: what the tests on the way say of `fault_of` and `fault_at`, and of a Text's columns.
-- Assumes nothing.
use Prim.Native.Nat.{ℕ, zero, suc, ◌+◌, ◌*◌, ◌/◌, ◌≤◌, ◌<◌}
use native.Mathlib.Nat.{not-suc-le-zero}
use native.Mathlib.Omega.{arith}
use mathlib.Core.Path.{◌≡◌, ap, ◌∙◌}
use mathlib.Core.Bool.{true, false}
use mathlib.Core.List.{List, []}
use lib.ListN.{length, get_or, drop}
use borrow.Author.Tests.{lt-ltb, le-ltb, ne_eqb}
use Rattle.std.specs.Simd.{first_chunks}
use Rattle.std.proofs.lemmas.List.{get_or-take, get_or-drop}
use Rattle.table.specs.Kinds.{kind_at}
use Rattle.table.specs.Node.{word}
use Rattle.table.specs.declared.kind.KindInfo.{KindInfo}
use Rattle.table.specs.Parts.{text_fault}
use Rattle.table.specs.Fault.{unused_zero, children_below, nest_in_range, fault_of, fault_at}
use Rattle.table.proofs.KindRule.{append-entry, group-entry, text-entry}

-- ---- a node

pub fault_unknown : (text : List ℕ) (n k a b c : ℕ) → 11 ≤ k → 2 ≡ fault_of text n k a b c
unfolding fault_of
fault_unknown text n k a b c h = rw (le-ltb k 11 h)

-- an Append of two nodes below it, by its entry in the table of kinds
pub fault-append : (n k a b c : ℕ) → k ≡ 1 → a < n → b < n → c ≡ 0 → (text : List ℕ) → fault_of text n k a b c ≡ 0
unfolding fault_of
fault-append n k a b c one first second none text = rw (one, append-entry, none, lt-ltb a n first, lt-ltb b n second)

-- a Group of a node below it, by its entry
pub fault-group : (n k a b c : ℕ) → k ≡ 2 → a < n → b ≡ 0 → c ≡ 0 → (text : List ℕ) → fault_of text n k a b c ≡ 0
unfolding fault_of
fault-group n k a b c two child none last text = rw (two, group-entry, none, last, lt-ltb a n child)

-- a Text, by its entry: it uses all its words and has no child
pub fault-text : (text : List ℕ) (n k a b c f : ℕ) → k ≡ 6 → f ≡ text_fault text a b c → f ≡ fault_of text n k a b c
unfolding fault_of
fault-text text n k a b c f e t = rw (e, text-entry) t

-- of a known kind, with its entry in the table of kinds
module _ (text : List ℕ) (n k a b c : ℕ) (info : KindInfo) (known : k < 11) (entry : info ≡ kind_at k) where
  pub fault_unused : unused_zero info.words a b c ≡ false → 2 ≡ fault_of text n k a b c
  unfolding fault_of
  fault_unused u = rw (lt-ltb k 11 known, ← entry, u)

  module _ (u : unused_zero info.words a b c ≡ true) where
    pub fault-child : children_below n info.children a b ≡ false → 3 ≡ fault_of text n k a b c
    unfolding fault_of
    fault-child d = rw (lt-ltb k 11 known, ← entry, u, d)

    module _ (d : children_below n info.children a b ≡ true) where
      pub fault-nest : nest_in_range k b c ≡ false → 3 ≡ fault_of text n k a b c
      unfolding fault_of
      fault-nest m = rw (lt-ltb k 11 known, ← entry, u, d, m)

      pub fault-none : nest_in_range k b c ≡ true → (k ≡ 6 → ⊥) → 0 ≡ fault_of text n k a b c
      unfolding fault_of
      fault-none m ne = rw (lt-ltb k 11 known, ← entry, u, d, m, ne_eqb k 6 ne)

-- ---- the table's words, four at a time

-- word i of the node with number n, of the first nodes
chunk_word : (nodes : ℕ) (table : List ℕ) (n i : ℕ) → n < nodes → i < 4 → get_or (get_or (first_chunks 4 nodes table) n []) i 0 ≡ word table n i
chunk_word zero table n i h l = absurd (not-suc-le-zero h)
chunk_word (suc nodes) table zero i h l =
    let here : i ≡ 0 * 4 + i = omega arith in
    get_or-take 4 table i 0 l ∙ ap (λ (k : ℕ). get_or table k 0) here
chunk_word (suc nodes) table (suc n) i h l =
    let on : 4 + (n * 4 + i) ≡ suc n * 4 + i = omega arith in
    chunk_word nodes (drop 4 table) n i (omega arith) l ∙ get_or-drop 4 table (n * 4 + i) 0 ∙ ap (λ (k : ℕ). get_or table k 0) on

-- the words that the code reads are the node's
pub fault_read : (table text : List ℕ) (n : ℕ) (nodes : List (List ℕ)) → nodes ≡ first_chunks 4 (length table / 4) table → n < length table / 4
    → fault_at table text n ≡ fault_of text n (get_or (get_or nodes n []) 0 0) (get_or (get_or nodes n []) 1 0) (get_or (get_or nodes n []) 2 0) (get_or (get_or nodes n []) 3 0)
unfolding fault_at
fault_read table text n nodes e h =
    let at : (i : ℕ) → i < 4 → get_or (get_or nodes n []) i 0 ≡ word table n i = λ i l. rw e (chunk_word (length table / 4) table n i h l) in
    rw (at 0 (omega arith), at 1 (omega arith), at 2 (omega arith), at 3 (omega arith))
