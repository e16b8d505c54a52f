-- Node n of a valid table is laid out by lending the table up to n: that table is accepted, and its root is node n.
-- Assumes nothing.
use Prim.Native.Nat.{ℕ, suc, ◌+◌, ◌*◌, ◌≤◌, ◌<◌}
use native.Mathlib.Omega.{arith}
use mathlib.Core.Path.{◌≡◌, sym, ap, ◌∙◌}
use mathlib.Core.List.{List}
use lib.ListN.{length, take}
use lib.Seq.{length-take-le, take-take}
use Rattle.table.specs.Node.{word}
use Rattle.table.specs.Fault.{Fault, fault_at, none, check}
use Rattle.table.specs.Valid.{NodeRight}
use Rattle.table.specs.Sound as table-valid
use Rattle.table.specs.Unfold.{root, tree}
use Rattle.table.specs.Document.{doc}
use Rattle.table.proofs.Accept.{right_of, clean_of, zero_if-valid}
use Rattle.table.proofs.Sound.{sound_of}
use Rattle.table.proofs.Unfolded.{word_same, tree_lent}
use Rattle.build.specs.declared.Counts.{Counts}
use Rattle.build.specs.Promise.{ValidSoFar, doc_at}

-- a node that ends in a front that two tables share
fault-front : (m n : ℕ) (table table' text : List ℕ) → n * 4 + 4 ≤ m → take m table ≡ take m table' → fault_at table text n ≡ 0
    → NodeRight text n (word table' n 0) (word table' n 1) (word table' n 2) (word table' n 3)
unfolding fault_at
fault-front m n table table' text h e f =
    let w : (i : ℕ) → i < 4 → word table n i ≡ word table' n i = λ i l. word_same m n i table table' (omega arith) e in
    rw (w 0 (omega arith), w 1 (omega arith), w 2 (omega arith), w 3 (omega arith)) at (right_of text n _ _ _ _ f)

module _ (c : Counts) (table text : List ℕ) (valid : ValidSoFar c table text) (nodes-inside : c.nodes * 4 ≤ length table) (bytes_inside : c.bytes ≤ length text)
    (n : ℕ) (h : n < c.nodes) where
  abbrev counted : List ℕ
  counted = take (c.nodes * 4) table

  abbrev used : List ℕ
  used = take c.bytes text

  -- the table up to n, n in it
  abbrev front : List ℕ
  front = take (n * 4 + 4) table

  front_length : length front ≡ n * 4 + 4
  front_length = length-take-le (n * 4 + 4) table (omega arith)

  no-fault : (m : ℕ) → m < c.nodes → fault_at counted used m ≡ 0
  no-fault = clean_of counted used c.nodes (ap (λ (f : Fault). f.answer) valid)

  same-front : take (n * 4 + 4) counted ≡ take (n * 4 + 4) front
  same-front = take-take (n * 4 + 4) (c.nodes * 4) table (omega arith) ∙ sym (take-take (n * 4 + 4) (n * 4 + 4) table (omega arith))

  pub lent-root : root front ≡ n
  lent-root = rw front_length (omega arith)

  pub lent-valid : c.nodes ≤ 1024 → c.bytes ≤ 65536 → check front used ≡ none
  lent-valid few short =
      zero_if-valid front used
      (record {
        some = rw front_length (omega arith);
        fours = rw front_length (omega arith);
        words = rw front_length (omega arith);
        bytes = rw (length-take-le c.bytes text bytes_inside) short;
        nodes =
            λ m l. let k : m < n + 1 = let e = front_length in omega arith in fault-front (n * 4 + 4) m counted front used (omega arith) same-front (no-fault m (omega arith));
      })

  pub lent-doc : doc (tree front used n) ≡ doc_at c table text n
  lent-doc =
      let v : table-valid.AllSound counted (length used) (suc n) = λ m l. sound_of counted used m (no-fault m (omega arith)) in
      ap doc (sym (tree_lent counted used n (length used) v ∙ ap (λ (t : List ℕ). tree t used n) (take-take (n * 4 + 4) (c.nodes * 4) table (omega arith))))
