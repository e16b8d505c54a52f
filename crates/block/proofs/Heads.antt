-- Each layer of Head and Tail only adds nodes, and answers one that is there.
--     of-below, stays-there, stay-below   present nodes, and that they stay
--     list-none, list-some                a list: empty, or joined
--     list-adds .. tail-adds              each layer
-- Assumes nothing.
use Prim.Native.Nat.{ℕ, ◌<◌}
use native.Mathlib.Omega.{arith}
use mathlib.Core.Path.{◌≡◌, refl}
use mathlib.Core.Bool.{Bool, true}
use mathlib.Core.List.{List, [], ◌∷◌}
use lib.ListN.{length}
use lib.Dec.{ltb}
use borrow.Author.Tests.{lt-ltb}
use Rattle.build.specs.declared.Counts.{Counts}
use Rattle.build.specs.Draft.{Draft, Built, older}
use Rattle.build.specs.Parts.{concat, append, group}
use Rattle.build.specs.Constructors.{has_all}
use Rattle.build.proofs.Grow.{more-nodes}
use Rattle.build.proofs.Joins.{Below, below_more}
use Rattle.build.proofs.Only.{Adds, adds_then, older-adds, pick-adds, append-adds, group-adds, concat-adds}
use Rattle.block.specs.declared.Shared.{Shared}
use Rattle.block.specs.Affixes.{list, guarded, head, tail}

pub of-below : (c : Counts) (ns : List ℕ) → Below c.nodes ns → has_all c ns ≡ true
unfolding has_all
of-below c [] b = refl
of-below c (n ∷ ns) b = rw (lt-ltb n c.nodes b.0, of-below c ns b.1) refl

-- a node that is there stays there
pub stays-there : {s : Draft} {b : Built} → Adds s b → {n : ℕ} → n < s.counts.nodes → n < b.draft.counts.nodes
stays-there a h = let g = more-nodes a.grown in omega arith

pub stay-below : {s : Draft} {b : Built} → Adds s b → (ns : List ℕ) → Below s.counts.nodes ns → Below b.draft.counts.nodes ns
stay-below a ns h = below_more ns (more-nodes a.grown) h

-- ---- a list

pub list-none : (s : Draft) (none : ℕ) (ns : List ℕ) → length ns ≡ 0 → list s none ns ≡ older s none
unfolding list
list-none s none [] e = refl
list-none s none (n ∷ ns) e = absurd (omega arith)

pub list-some : (s : Draft) (none : ℕ) (ns : List ℕ) → (length ns ≡ 0 → ⊥) → list s none ns ≡ concat s ns
unfolding list
list-some s none [] e = absurd (e refl)
list-some s none (n ∷ ns) e = refl

-- ---- one layer

module _ (s : Draft) where
  abbrev N : ℕ
  N = s.counts.nodes

  pub list-adds : (none : ℕ) (ns : List ℕ) → none < N → Below N ns → Adds s (list s none ns)
  unfolding list
  list-adds none [] h b = older-adds s none h
  list-adds none (n ∷ ns) h b = concat-adds s (n ∷ ns) b

  pub guarded-adds : (sh : Shared) (n : ℕ) (q : Bool) → sh.guard.0 < N → n < N → Adds s (guarded s sh n q)
  unfolding guarded
  guarded-adds sh n q g h = pick-adds s q (append s n sh.guard.0) (older s n) (append-adds s n sh.guard.0 h g) (older-adds s n h)

-- ---- in order

-- a group around what was made
pub grouped : {s : Draft} {b : Built} → Adds s b → Adds s (group b.draft b.node)
grouped {s} {b} a = adds_then a (group-adds b.draft b.node a.present)

pub head-adds : (s : Draft) (sh : Shared) (before : List ℕ) → sh.none.0 < s.counts.nodes → sh.guard.0 < s.counts.nodes → Below s.counts.nodes before
    → Adds s (head s sh before)
unfolding head
head-adds s sh before n g b =
    let first = list-adds s sh.none.0 before n b in
    let joined = list s sh.none.0 before in
    grouped (adds_then first (guarded-adds joined.draft sh joined.node (ltb 1 (length before)) (stays-there first g) first.present))

pub tail-adds : (s : Draft) (sh : Shared) (n : ℕ) (before : List ℕ) → sh.none.0 < s.counts.nodes → n < s.counts.nodes → Below s.counts.nodes before
    → Adds s (tail s sh n before)
unfolding tail
tail-adds s sh n before e h l =
    let suffixes = list s sh.none.0 before in
    let first = list-adds s sh.none.0 before e l in
    grouped (adds_then first (append-adds suffixes.draft n suffixes.node (stays-there first h) first.present))
