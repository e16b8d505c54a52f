-- The table of kinds.
--     append-entry, group-entry, text-entry   the entries that the shortcuts of validation go by
--     kind_rule    the rule of the table, proved once over the whole of it: each entry counts the children and the words of its kind's node
-- Assumes nothing.
use Prim.Native.Nat.{ℕ, ◌<◌}
use mathlib.Core.Path.{◌≡◌, refl}
use mathlib.Core.Bool.{Bool, ◌&&◌}
use mathlib.Core.List.{List, [], ◌∷◌}
use lib.ListN.{length}
use lib.Dec.{eqb}
use borrow.Author.Tests.{eqb-true}
use Rattle.table.specs.declared.kind.KindInfo.{KindInfo}
use Rattle.table.specs.Kinds.{kind, kinds, kind_at}
use Rattle.table.specs.Node.{Node, nil, append, group, flat_alt, nest, hardline, text, annotated, union, align, fail, node_of}
use Rattle.choice.proofs.Tests.{and-true, all_at}

-- An Append has two children and uses two words, a Group one and one, a Text no child and all three words. `plainly_right` and `fault` of `Words`,
-- in src/lib.rt, test these kinds without reading the table; their proofs cite these lines.
pub append-entry : kind_at 1 ≡ kind 2 2
unfolding kinds kind_at
append-entry = refl

pub group-entry : kind_at 2 ≡ kind 1 1
unfolding kinds kind_at
group-entry = refl

pub text-entry : kind_at 6 ≡ kind 0 3
unfolding kinds kind_at
text-entry = refl

-- the children of a node
abbrev pub children : Node → List ℕ
children nil = []
children (append a b) = a ∷ b ∷ []
children (group a) = a ∷ []
children (flat_alt a b) = a ∷ b ∷ []
children (nest a k way) = a ∷ []
children hardline = []
children (text o l c) = []
children (annotated a l) = a ∷ []
children (union a b) = a ∷ b ∷ []
children (align a) = a ∷ []
children fail = []

-- how many words say it, besides the kind
abbrev pub said : Node → ℕ
said nil = 0
said (append a b) = 2
said (group a) = 1
said (flat_alt a b) = 2
said (nest a k way) = 3
said hardline = 0
said (text o l c) = 3
said (annotated a l) = 2
said (union a b) = 2
said (align a) = 1
said fail = 0

module _ (a b c : ℕ) where
  abbrev counts : ℕ → KindInfo → Bool
  counts k e = eqb e.children (length (children (node_of k a b c))) && eqb e.words (said (node_of k a b c))

  pub kind_rule : (k : ℕ) → k < 11 → ((kind_at k).children ≡ length (children (node_of k a b c))) × ((kind_at k).words ≡ said (node_of k a b c))
  unfolding kinds kind_at
  kind_rule k h =
      let p = and-true _ _ (all_at counts kinds (kind 0 0) refl k h) in
      (eqb-true _ _ p.0, eqb-true _ _ p.1)
