-- Each layer of a block around its Head and Tail only adds nodes, and answers one that is there.
--     below-take, below-drop              parts of a list of present nodes
--     On, on-more                         all that an alternative names is there, and stays there
--     nested-adds .. unions-adds          each layer
-- Assumes nothing.
use Prim.Native.Nat.{ℕ, zero, suc, ◌≤◌, ◌<◌}
use native.Mathlib.Omega.{arith}
use mathlib.Core.Bool.{Bool, true}
use mathlib.Core.List.{List, [], ◌∷◌}
use lib.ListN.{take, drop}
use Rattle.build.specs.Draft.{Draft, Built, older}
use Rattle.build.specs.Parts.{append, nest, union}
use Rattle.build.proofs.Grow.{more-nodes}
use Rattle.build.proofs.Joins.{Below, below_more}
use Rattle.build.proofs.Only.{Adds, adds_then, older-adds, pick-adds, union-adds, append-adds, nest-adds}
use Rattle.block.specs.declared.Block.{Block}
use Rattle.block.specs.declared.Shared.{Shared}
use Rattle.block.specs.Affixes.{list, bare, guarded, head, tail}
use Rattle.block.proofs.Heads.{stays-there, stay-below, list-adds, guarded-adds, grouped, head-adds, tail-adds}
use Rattle.block.specs.Block.{nested, core, wrap, wraps, alternative, unions}

-- ---- present nodes

pub below-take : (N k : ℕ) (ns : List ℕ) → Below N ns → Below N (take k ns)
below-take N zero ns b = tt
below-take N (suc k) [] b = tt
below-take N (suc k) (n ∷ ns) b = (b.0, below-take N k ns b.1)

pub below-drop : (N k : ℕ) (ns : List ℕ) → Below N ns → Below N (drop k ns)
below-drop N zero ns b = b
below-drop N (suc k) [] b = tt
below-drop N (suc k) (n ∷ ns) b = below-drop N k ns b.1

-- ---- one layer

module _ (s : Draft) where
  abbrev N : ℕ
  N = s.counts.nodes

  pub nested-adds : (b : Block) (n : ℕ) (q : Bool) → n < N → Adds s (nested s b n q)
  unfolding nested
  nested-adds b n q h = pick-adds s q (nest s n b.amount.0 b.way) (older s n) (nest-adds s n b.amount.0 b.way h) (older-adds s n h)

-- ---- in order

pub core-adds : (s : Draft) (b : Block) (sh : Shared) (q : Bool) (after : List ℕ) → b.body.0 < s.counts.nodes → sh.none.0 < s.counts.nodes
    → sh.guard.0 < s.counts.nodes → Below s.counts.nodes after → Adds s (core s b sh q after)
unfolding core
core-adds s b sh q after h n g l =
    let joined = guarded s sh b.body.0 q in
    let first = guarded-adds s sh b.body.0 q g h in
    let inner = nested joined.draft b joined.node true in
    let second = adds_then first (nested-adds joined.draft b joined.node true first.present) in
    let suffixes = list inner.draft sh.none.0 after in
    let third = list-adds inner.draft sh.none.0 after (stays-there second n) (stay-below second after l) in
    adds_then second (adds_then third (append-adds suffixes.draft inner.node suffixes.node (stays-there third second.present) third.present))

pub wrap_adds : (s : Draft) (b : Block) (n prefix : ℕ) (q : Bool) → n < s.counts.nodes → prefix < s.counts.nodes → Adds s (wrap s b n prefix q)
unfolding wrap
wrap_adds s b n prefix q h p =
    let joined = append s prefix n in
    let first = append-adds s prefix n p h in
    grouped (adds_then first (nested-adds joined.draft b joined.node q first.present))

pub wraps-adds : (s : Draft) (b : Block) (n : ℕ) (ps : List ℕ) (qs : List Bool) → n < s.counts.nodes → Below s.counts.nodes ps → Adds s (wraps s b n ps qs)
unfolding wraps
wraps-adds s b n [] qs h l = older-adds s n h
wraps-adds s b n (p ∷ ps) [] h l = older-adds s n h
wraps-adds s b n (p ∷ ps) (q ∷ qs) h l =
    let inner = wraps-adds s b n ps qs h l.1 in
    adds_then inner (wrap_adds (wraps s b n ps qs).draft b (wraps s b n ps qs).node p q inner.present (stays-there inner l.0))

-- ---- the alternatives

-- all that an alternative names is there
pub record On (N : ℕ) (b : Block) (sh : Shared) (prefixes suffixes : List ℕ) : Type 0 where
  pub body : b.body.0 < N
  pub none : sh.none.0 < N
  pub guard : sh.guard.0 < N
  pub before : Below N prefixes
  pub behind : Below N suffixes

pub on-more : {N M : ℕ} {b : Block} {sh : Shared} {prefixes suffixes : List ℕ} → N ≤ M → On N b sh prefixes suffixes → On M b sh prefixes suffixes
on-more {prefixes = prefixes} {suffixes = suffixes} h o =
    record { body = omega (arith, o.body); none = omega (arith, o.none); guard = omega (arith, o.guard); before = below_more prefixes h o.before; behind = below_more suffixes h o.behind }

pub on_still : {s : Draft} {x : Built} {b : Block} {sh : Shared} {prefixes suffixes : List ℕ} → Adds s x → On s.counts.nodes b sh prefixes suffixes
    → On x.draft.counts.nodes b sh prefixes suffixes
on_still a o = on-more (more-nodes a.grown) o

module _ (b : Block) (sh : Shared) (prefixes suffixes : List ℕ) (nests : List Bool) where
  module _ (s : Draft) (split : ℕ) (o : On s.counts.nodes b sh prefixes suffixes) where
    abbrev front : Built
    front = head s sh (take split prefixes)

    abbrev middle : Built
    middle = core front.draft b sh (bare front.draft (take split prefixes)) (drop split suffixes)

    abbrev wrapped : Built
    wrapped = wraps middle.draft b middle.node (drop split prefixes) (drop split nests)

    abbrev back : Built
    back = tail wrapped.draft sh wrapped.node (take split suffixes)

    pub front-adds : Adds s front
    front-adds = head-adds s sh (take split prefixes) o.none o.guard (below-take _ split prefixes o.before)

    pub middle-adds : Adds front.draft middle
    middle-adds =
        let p = on_still front-adds o in
        core-adds front.draft b sh (bare front.draft (take split prefixes)) (drop split suffixes) p.body p.none p.guard
        (below-drop _ split suffixes p.behind)

    pub wrapped-adds : Adds middle.draft wrapped
    wrapped-adds =
        let p = on_still middle-adds (on_still front-adds o) in
        wraps-adds middle.draft b middle.node (drop split prefixes) (drop split nests) middle-adds.present (below-drop _ split prefixes p.before)

    pub back-adds : Adds wrapped.draft back
    back-adds =
        let p = on_still wrapped-adds (on_still middle-adds (on_still front-adds o)) in
        tail-adds wrapped.draft sh wrapped.node (take split suffixes) p.none wrapped-adds.present (below-take _ split suffixes p.behind)

    pub front-there : front.node < back.draft.counts.nodes
    front-there = stays-there back-adds (stays-there wrapped-adds (stays-there middle-adds front-adds.present))

    pub join-adds : Adds back.draft (alternative s b sh prefixes suffixes nests split)
    unfolding alternative
    join-adds = append-adds back.draft front.node back.node front-there back-adds.present

    pub alternative-adds : Adds s (alternative s b sh prefixes suffixes nests split)
    alternative-adds = adds_then front-adds (adds_then middle-adds (adds_then wrapped-adds (adds_then back-adds join-adds)))

  -- the union with what stands
  pub both-adds : (s : Draft) (n split : ℕ) → On s.counts.nodes b sh prefixes suffixes
      → Adds s (let other = alternative s b sh prefixes suffixes nests split in union other.draft n other.node)
  both-adds s n split o =
      let other = alternative s b sh prefixes suffixes nests split in
      adds_then (alternative-adds s split o) (union-adds other.draft n other.node)

  pub unions-adds : (s : Draft) (n split : ℕ) → n < s.counts.nodes → On s.counts.nodes b sh prefixes suffixes
      → Adds s (unions s b sh prefixes suffixes nests n split)
  unfolding unions
  unions-adds s n zero h o = older-adds s n h
  unions-adds s n (suc split) h o =
      let a = both-adds s n (suc split) o in
      let other = alternative s b sh prefixes suffixes nests (suc split) in
      let both = union other.draft n other.node in
      adds_then a (unions-adds both.draft both.node split a.present (on_still a o))
