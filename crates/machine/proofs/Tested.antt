-- The engine's fit test says what the rules' fit test says, at the steps that are left of the limit. Node n unfolds to `at n`.
-- Assumes nothing.
use Prim.Native.Nat.{ℕ, zero, suc, ◌+◌, ◌-◌, ◌≤◌, ◌<◌}
use mathlib.Core.Path.{◌≡◌, refl, ap, ◌∙◌}
use mathlib.Core.Bool.{Bool, true, false}
use mathlib.Core.List.{List, [], ◌∷◌}
use native.Mathlib.Omega.{arith}
use lib.ListN.{length}
use lib.Dec.{leb}
use Rattle.table.specs.Node.{Node, nil, append, group, flat_alt, nest, hardline, text, annotated, union, align, fail, node_at}
use Rattle.table.specs.Unfold.{Tree, tree_of}
use Rattle.table.specs.Sound.{Sound, AllSound}
use Rattle.rules.specs.Layout.{Limits, Mode, flat, broken, says, spent}
use Rattle.rules.specs.Layout as rules
use Rattle.machine.specs.Waiting.{Entry, node, trial, closing, waiting}
use Rattle.machine.specs.Fit.{Verdict, fits, wide, due, Item, item, reread, Walked, walk, say, text_fits, look, fit}
use Rattle.machine.specs.Well.{Nodes}
use Rattle.machine.proofs.Ends.{visit_goes, visit_stops}

-- every node to walk is one of the first N
abbrev pub Items : ℕ → List Item → Type 0
Items N [] = Unit {0}
Items N (item n m ∷ is) = (n < N) × Items N is

pub reread-items : (N : ℕ) (w : List Entry) → Nodes N w → Items N (reread w)
reread-items N [] g = tt
reread-items N (node n i m ∷ w) g = (g.0, reread-items N w g.1)
reread-items N (trial b i m a ∷ w) g = reread-items N w g
reread-items N (closing n l ∷ w) g = reread-items N w g

abbrev Onto : ℕ → Walked → Type 0
Onto N (walk is c) = Items N is
Onto N (say v) = Unit {0}

-- a visit of a sound node leads to its children
look_onto : (N width len n : ℕ) (nd : Node) (m : Mode) (is : List Item) (c left : ℕ) → n < N → Sound len n nd → Items N is → Onto N (look width nd m is c left)
look_onto N W len n nil m is c l h g s = s
look_onto N W len n (append a b) m is c l h g s = (omega (arith, g.0), (omega (arith, g.1), s))
look_onto N W len n (group a) m is c l h g s = (omega (arith, g), s)
look_onto N W len n (flat_alt a b) broken is c l h g s = (omega (arith, g.0), s)
look_onto N W len n (flat_alt a b) flat is c l h g s = (omega (arith, g.1), s)
look_onto N W len n (nest a k way) m is c l h g s = (omega (arith, g.0), s)
look_onto N W len n hardline broken is c l h g s = tt
look_onto N W len n hardline flat is c l h g s = tt
look_onto N W len n (text o t k) m is c l h g s = go (leb (c + k) W)
  where
    go : (q : Bool) → Onto N (text_fits q is (c + k) l)
    go true = s
    go false = tt
look_onto N W len n (annotated a t) m is c l h g s = (omega (arith, g), s)
look_onto N W len n (union a b) m is c l h g s = (omega (arith, g.1), s)
look_onto N W len n (align a) m is c l h g s = (omega (arith, g), s)
look_onto N W len n fail m is c l h g s = tt

module _ (L : Limits) (at : ℕ → Tree) where
  -- what the rules say of the nodes to walk
  unfoldable pub walks : List Item → ℕ → ℕ → rules.Fit
  walks [] c s = says true s
  walks (item n m ∷ is) c s = rules.fit L (at n) m (walks is) c s

  pub walks-rest : (w : List Entry) → walks (reread w) ≡ rules.rest L (waiting at w)
  unfolding walks waiting rules.rest
  walks-rest [] = refl
  walks-rest (node n i m ∷ w) = ap (λ k c s. rules.fit L (at n) broken k c s) (walks-rest w)
  walks-rest (trial b i m a ∷ w) = walks-rest w
  walks-rest (closing n l ∷ w) = walks-rest w

  -- a verdict in the rules' words
  abbrev pub said : Verdict → rules.Fit
  said (fits left) = says true (L.limit - left)
  said (wide left) = says false (L.limit - left)
  said (due n) = spent n (L.limit - zero)

  abbrev seen : ℕ → Walked → rules.Fit
  seen left (walk is c) = walks is c (L.limit - left)
  seen left (say v) = said v

  module _ (str : List ℕ) where
    -- a visit with a step left
    look_is : (nd : Node) (n : ℕ) (m : Mode) (is : List Item) (c left : ℕ) → left < L.limit
        → rules.fit L (tree_of str at n nd) m (walks is) c (L.limit - suc left) ≡ seen left (look L.width nd m is c left)
    unfolding walks rules.fit
    look_is nil n m is c left h = visit_goes L _ _ left h
    look_is (append a b) n m is c left h = visit_goes L _ _ left h
    look_is (group a) n m is c left h = visit_goes L _ _ left h
    look_is (flat_alt a b) n broken is c left h = visit_goes L _ _ left h
    look_is (flat_alt a b) n flat is c left h = visit_goes L _ _ left h
    look_is (nest a k way) n m is c left h = visit_goes L _ _ left h
    look_is hardline n broken is c left h = visit_goes L _ _ left h
    look_is hardline n flat is c left h = visit_goes L _ _ left h
    look_is (text o l cols) n m is c left h = visit_goes L _ _ left h ∙ go (leb (c + cols) L.width)
      where
        go : (q : Bool)
            → elim q [ true ↦ walks is (c + cols) (L.limit - left) | false ↦ says false (L.limit - left) ] ≡ seen left (text_fits q is (c + cols) left)
        go true = refl
        go false = refl
    look_is (annotated a l) n m is c left h = visit_goes L _ _ left h
    look_is (union a b) n m is c left h = visit_goes L _ _ left h
    look_is (align a) n m is c left h = visit_goes L _ _ left h
    look_is fail n m is c left h = visit_goes L _ _ left h

    -- a node that is due with no step left
    due-is : (nd : Node) (n : ℕ) (m : Mode) (k : ℕ → ℕ → rules.Fit) (c : ℕ) → rules.fit L (tree_of str at n nd) m k c (L.limit - zero) ≡ said (due n)
    unfolding rules.fit
    due-is nil n m k c = visit_stops L _ _
    due-is (append a b) n m k c = visit_stops L _ _
    due-is (group a) n m k c = visit_stops L _ _
    due-is (flat_alt a b) n broken k c = visit_stops L _ _
    due-is (flat_alt a b) n flat k c = visit_stops L _ _
    due-is (nest a d way) n m k c = visit_stops L _ _
    due-is hardline n broken k c = visit_stops L _ _
    due-is hardline n flat k c = visit_stops L _ _
    due-is (text o l cols) n m k c = visit_stops L _ _
    due-is (annotated a l) n m k c = visit_stops L _ _
    due-is (union a b) n m k c = visit_stops L _ _
    due-is (align a) n m k c = visit_stops L _ _
    due-is fail n m k c = visit_stops L _ _

    module _ (table : List ℕ) (N : ℕ) (valid : AllSound table (length str) N) (unfolds : (n : ℕ) → n < N → at n ≡ tree_of str at n (node_at table n)) where
      pub fit_is : (left : ℕ) (is : List Item) (c : ℕ) → left ≤ L.limit → Items N is → walks is c (L.limit - left) ≡ said (fit table L.width left is c)
      unfolding walks fit
      fit_is zero [] c h g = refl
      fit_is zero (item n m ∷ is) c h g = ap (λ t. rules.fit L t m (walks is) c (L.limit - zero)) (unfolds n g.0) ∙ due-is (node_at table n) n m (walks is) c
      fit_is (suc left) [] c h g = refl
      fit_is (suc left) (item n m ∷ is) c h g =
          ap (λ t. rules.fit L t m (walks is) c (L.limit - suc left)) (unfolds n g.0)
          ∙ look_is (node_at table n) n m is c left (omega arith)
          ∙ go (look L.width (node_at table n) m is c left) (look_onto N _ _ n (node_at table n) m is c left g.0 (valid n g.0) g.1) (λ is' c' g'. fit_is left is' c' (omega arith) g')
        where
          go : (v : Walked) → Onto N v → ((is' : List Item) (c' : ℕ) → Items N is' → walks is' c' (L.limit - left) ≡ said (fit table L.width left is' c'))
              → seen left v ≡ said (elim v [ walk is' c' ↦ fit table L.width left is' c' | say v' ↦ v' ])
          go (walk is' c') k ih = ih is' c' k
          go (say v') k ih = refl
