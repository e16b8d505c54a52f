-- What constructors promise of valid tables: a new node keeps them valid, leaves the older nodes' documents as they were,
-- and unfolds to the document that was asked for. proofs/Promises.antt has it of each constructor.
use Rattle.std.specs.Prelude.{ℕ, ◌*◌, ◌≤◌, ◌<◌, ◌≡◌, List, take}
use Rattle.table.specs.Fault.{first_fault, none}
use Rattle.table.specs.Unfold.{tree}
use Rattle.table.specs.Document.{Doc, doc}
use Rattle.table.specs.declared.NodeNo.{NodeNo}
use Rattle.build.specs.declared.Counts.{Counts}
use Rattle.std.specs.Prelude.{Ok}
use Rattle.build.specs.Outcome.{Outcome}

module _ (c : Counts) (table text : List ℕ) where
  -- the counted part validates
  abbrev pub ValidSoFar : Type 0
  ValidSoFar = first_fault (take (c.nodes * 4) table) (take c.bytes text) c.nodes ≡ none

  -- what node n of the counted part unfolds to
  abbrev pub doc_at : ℕ → Doc
  doc_at n = doc (tree (take (c.nodes * 4) table) (take c.bytes text) n)

-- from counts c over table and text to counts c' with node n
pub record Builds (c : Counts) (table text : List ℕ) (o : Outcome) (d : Doc) (c' : Counts) (n : NodeNo) : Type 0 where
  pub valid : ValidSoFar c' o.table o.text
  pub grown : c.nodes ≤ c'.nodes
  pub older : (m : ℕ) → m < c.nodes → doc_at c' o.table o.text m ≡ doc_at c table text m
  pub present : n.0 < c'.nodes
  pub unfolds : doc_at c' o.table o.text n.0 ≡ d

-- whenever it gives a node
abbrev pub Promise : Counts → List ℕ → List ℕ → Outcome → Doc → Type 0
Promise c table text o d = (c' : Counts) (n : NodeNo) → o.made ≡ Ok (c', n) → ValidSoFar c table text → Builds c table text o d c' n
