-- What a caller that goes on from part to part needs of each: that it only adds, no byte, and answers a node that is there.
--     Adds                          nil-adds .. concat-adds
--     made-whole, made-short        where all but room is right: what was built, or the refusal for want of nodes
-- Assumes nothing.
use Prim.Native.Nat.{ℕ, ◌/◌, ◌≤◌, ◌<◌}
use native.Mathlib.Omega.{arith}
use mathlib.Core.Path.{◌≡◌, refl, sym, ◌∙◌}
use mathlib.Core.Bool.{Bool, true, false, not, ◌||◌}
use mathlib.Core.List.{List, [], ◌∷◌}
use lib.ListN.{length}
use lib.Dec.{eqb}
use borrow.Author.Tests.{le-ltb, eq-eqb}
use Rattle.choice.specs.Pick.{pick}
use Rattle.build.specs.declared.Counts.{Counts}
use Rattle.build.specs.declared.Why.TheVariants.{Nodes}
use Rattle.std.specs.Prelude.{Ok, Err}
use Rattle.build.specs.Draft.{Draft, Built, counted, older, add}
use Rattle.build.specs.Parts.{is_nil, stays, nil, append, group, flat_alt, nest, union, fail, joined, concat}
use Rattle.build.specs.Outcome.{Asked, fits, asked, outcome, added, made}
use Rattle.build.proofs.Grow.{Grown, same, then, more-nodes, add-grown}
use Rattle.build.proofs.Stand.{made_granted, made_denied}
use Rattle.build.proofs.Joins.{Below, below_more}

pub record Adds (s : Draft) (b : Built) : Type 0 where
  pub grown : Grown s b.draft
  pub quiet : b.draft.counts.bytes ≡ s.counts.bytes
  pub present : b.node < b.draft.counts.nodes

-- one after another
pub adds_then : {s : Draft} {b b' : Built} → Adds s b → Adds b.draft b' → Adds s b'
adds_then a a' = record { grown = then a.grown a'.grown; quiet = a'.quiet ∙ a.quiet; present = a'.present }

pub older-adds : (s : Draft) (n : ℕ) → n < s.counts.nodes → Adds s (older s n)
older-adds s n h = record { grown = same s; quiet = refl; present = h }

one-adds : (s : Draft) (k a b c : ℕ) → Adds s (add s k a b c)
one-adds s k a b c = record { grown = add-grown s k a b c; quiet = refl; present = omega arith }

pub pick-adds : (s : Draft) (q : Bool) (x y : Built) → Adds s x → Adds s y → Adds s (pick q x y)
pick-adds s true x y g h = g
pick-adds s false x y g h = h

pub nil-adds : (s : Draft) → Adds s (nil s)
nil-adds s = one-adds s 0 0 0 0

pub fail-adds : (s : Draft) → Adds s (fail s)
fail-adds s = one-adds s 10 0 0 0

pub flat_alt-adds : (s : Draft) (a b : ℕ) → Adds s (flat_alt s a b)
flat_alt-adds s a b = one-adds s 3 a b 0

pub union-adds : (s : Draft) (a b : ℕ) → Adds s (union s a b)
union-adds s a b = one-adds s 8 a b 0

pub append-adds : (s : Draft) (a b : ℕ) → a < s.counts.nodes → b < s.counts.nodes → Adds s (append s a b)
unfolding append
append-adds s a b h k =
    pick-adds s (is_nil s a) (older s b) (pick (is_nil s b) (older s a) (add s 1 a b 0)) (older-adds s b k)
    (pick-adds s (is_nil s b) (older s a) (add s 1 a b 0) (older-adds s a h) (one-adds s 1 a b 0))

pub group-adds : (s : Draft) (n : ℕ) → n < s.counts.nodes → Adds s (group s n)
unfolding group
group-adds s n h = pick-adds s (stays s n) (older s n) (add s 2 n 0 0) (older-adds s n h) (one-adds s 2 n 0 0)

pub nest-adds : (s : Draft) (n amount way : ℕ) → n < s.counts.nodes → Adds s (nest s n amount way)
unfolding nest
nest-adds s n amount way h = pick-adds s (is_nil s n || eqb amount 0) (older s n) (add s 4 n amount way) (older-adds s n h) (one-adds s 4 n amount way)

joined-adds : (s : Draft) (n : ℕ) (ns : List ℕ) → n < s.counts.nodes → Below s.counts.nodes ns → Adds s (joined s n ns)
unfolding joined
joined-adds s n [] h b = older-adds s n h
joined-adds s n (m ∷ ns) h b =
    let first = append-adds s n m h b.0 in
    adds_then first (joined-adds (append s n m).draft (append s n m).node ns first.present (below_more ns (more-nodes first.grown) b.1))

pub concat-adds : (s : Draft) (ns : List ℕ) → Below s.counts.nodes ns → Adds s (concat s ns)
unfolding concat
concat-adds s [] b = nil-adds s
concat-adds s (n ∷ ns) b = joined-adds s n ns b.0 b.1

-- ---- all but room is right

module _ (c : Counts) (table text : List ℕ) (present amount : Bool) (f : Draft → Built) (nodes : c.nodes ≤ length table / 4) (bytes : c.bytes ≤ length text)
    (p : present ≡ true) (a : amount ≡ true) (quiet : (f (counted c table text)).draft.counts.bytes ≡ c.bytes) where
  abbrev b : Built
  b = f (counted c table text)

  -- by whether the nodes fit
  asked-room : (q : Bool) → fits c.nodes b.draft.counts.nodes 1024 (length table / 4) ≡ q
      → asked c (length table) (length text) present amount true b.draft.counts.nodes b.draft.counts.bytes ≡ pick q (Ok tt) (Err Nodes)
  unfolding asked
  asked-room q e =
      rw (le-ltb (length table / 4) c.nodes nodes, le-ltb (length text) c.bytes bytes, p, a, eq-eqb c.bytes b.draft.counts.bytes (sym quiet))
      (rw e (last q))
    where
      last : (r : Bool) → ◌≡◌ {A = Asked} (pick (not r) (Err Nodes) (Ok tt)) (pick r (Ok tt) (Err Nodes))
      last true = refl
      last false = refl

  pub made-whole : fits c.nodes b.draft.counts.nodes 1024 (length table / 4) ≡ true → made c table text present amount true f ≡ added b table text
  made-whole e = made_granted c table text present amount true f b refl (asked-room true e)

  pub made-short : fits c.nodes b.draft.counts.nodes 1024 (length table / 4) ≡ false
      → outcome (Err Nodes) table text ≡ made c table text present amount true f
  made-short e = made_denied c table text present amount true f _ _ Nodes refl refl (asked-room false e)
