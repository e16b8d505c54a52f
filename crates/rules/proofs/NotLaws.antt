-- What is not a law, though it looks like one: for each a pair of tables whose documents differ by it at one place, both valid and laid out, and
-- one test that antt computes, that the bytes are not the same.
-- Assumes nothing.
use Prim.Native.Nat.{ℕ}
use mathlib.Core.Path.{refl, subst}
use mathlib.Core.Bool.{Bool, true, not, ◌&&◌}
use mathlib.Core.List.{List, [], ◌∷◌}
use lib.Dec.{T, T_not}
use borrow.Author.Tests.{eq-eqb}
use Rattle.table.specs.Node.{Way, adds, subtracts, nil, append, nest, hardline, text, node_at}
use Rattle.table.specs.Unfold.{tree_over, trees, tree}
use Rattle.table.specs.Document.{Doc, doc}
use Rattle.table.specs.Document as D
use Rattle.rules.specs.Call.{Given, call}
use Rattle.rules.specs.Law.{Within, here, in-append-first, in-nest, Alike}
use Rattle.rules.proofs.Case.{same, computed}
use Rattle.rules.proofs.Pairs.{Pair, over, all}

data NotLaw : Doc → Doc → Type 0 where
  nil_drops-right : (a : Doc) → NotLaw (D.append a D.nil) a
  nest_splits : (a b : Doc) (k : ℕ) (w : Way) → NotLaw (D.nest (D.append a b) k w) (D.append (D.nest a k w) (D.nest b k w))
  nest-taken-back : (a : Doc) (k : ℕ) → NotLaw (D.nest (D.nest a k adds) k subtracts) a

pairs : List (Pair (Within NotLaw))
unfolding over tree trees tree_over node_at doc
pairs =
    -- Nil doesn't drop from the right: case 5
    record {
      width = 42;
      one = hardline ∷ nil ∷ append 0 1 ∷ nest 2 4 adds ∷ text 0 1 1 ∷ append 3 4 ∷ [];
      other = hardline ∷ nest 0 4 adds ∷ text 0 1 1 ∷ append 1 2 ∷ [];
      gives = "\n    a";
      gives' = "\na";
      related = in-append-first _ (in-nest 4 adds (here (nil_drops-right _)));
    }
    -- a nest doesn't always split: case 6
    ∷ record {
      width = 42;
      one = hardline ∷ text 0 1 1 ∷ append 0 1 ∷ nest 2 4 adds ∷ [];
      other = hardline ∷ nest 0 4 adds ∷ text 0 1 1 ∷ nest 2 4 adds ∷ append 1 3 ∷ [];
      gives = "\n    a";
      gives' = "\na";
      related = here (nest_splits _ _ 4 adds);
    }
    -- nest 4, then back 4, is not nothing: case 7
    ∷ record {
      width = 42;
      one = hardline ∷ text 0 1 1 ∷ append 0 1 ∷ nest 2 4 adds ∷ nest 3 4 subtracts ∷ nest 4 2 adds ∷ [];
      other = hardline ∷ text 0 1 1 ∷ append 0 1 ∷ nest 2 2 adds ∷ [];
      gives = "\n    a";
      gives' = "\n  a";
      related = in-nest 2 adds (here (nest-taken-back _ 4));
    }
    ∷ []

laid_out : T (all pairs)
unfolding pairs all computed
laid_out = tt

-- the bytes of two calls are not the same
apart : Given → Given → Bool
unfolding same
apart g h = not (same (call g).bytes (call h).bytes)

all_apart : List (Pair (Within NotLaw)) → Bool
unfolding apart
all_apart [] = true
all_apart (e ∷ es) = apart (over e.one e.width) (over e.other e.width) && all_apart es

not_laws : T (all_apart pairs)
unfolding pairs all_apart over computed
not_laws = tt

same_refl : (xs : List ℕ) → T (same xs xs)
unfolding same
same_refl [] = tt
same_refl (x ∷ xs) = rw (eq-eqb x x refl) (same_refl xs)

-- so they are not alike
not_alike : (g h : Given) → T (apart g h) → Alike (call g) (call h) → ⊥
unfolding apart
not_alike g h t a = T_not (same (call g).bytes (call h).bytes) t (subst (λ bs. T (same (call g).bytes bs)) a.bytes (same_refl (call g).bytes))
