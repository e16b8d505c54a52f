-- The whole of a block, asked for: refused as document 01 says, or with room for its first three nodes.
--     asked-more       what is denied with fewer nodes is denied with more
--     within-refused, within-body, within_asks, within_last
-- Assumes nothing.
use Prim.Native.Nat.{ℕ, suc, ◌+◌, ◌-◌, ◌/◌, ◌≤◌, ◌<◌}
use native.Mathlib.Omega.{arith}
use native.Mathlib.Nat.{add-zero}
use mathlib.Core.Path.{◌≡◌, refl, sym, ap, ◌∙◌}
use mathlib.Core.Bool.{Bool, true, false, not, ◌&&◌, true≢false}
use mathlib.Core.List.{List, [], ◌∷◌}
use lib.ListN.{length}
use borrow.Author.Tests.{ltb-true, eq-eqb, ne_eqb}
use Rattle.choice.specs.Pick.{pick}
use Rattle.choice.proofs.Tests.{and-true}
use Rattle.build.specs.declared.Counts.{Counts}
use Rattle.build.specs.declared.Why.{Why}
use Rattle.build.specs.declared.Why.TheVariants.{Sizes, Operand, Amount, Text, Bytes, Nodes}
use Rattle.build.specs.Outcome.{Made}
use Rattle.std.specs.Prelude.{Ok, Err}
use Rattle.build.specs.Outcome.{Asked}
use Rattle.build.specs.Draft.{Draft, Built, counted, older}
use Rattle.build.specs.Outcome.{past, fits, asked, outcome, made}
use Rattle.build.specs.Constructors.{has, has_all, nest_right}
use Rattle.build.proofs.Room.{Passed, passed, fits_of}
use Rattle.build.proofs.Stand.{made_granted, made_denied, made-same}
use Rattle.build.proofs.Joins.{below_of}
use Rattle.block.specs.declared.Block.{Block}
use Rattle.block.specs.Block.{layouts, block_of, operands, least}
use Rattle.block.specs.Run.{Ready}
use Rattle.block.specs.Operands.{Askable}
use Rattle.block.proofs.Chain.{no_room, ran-older}
use Rattle.block.proofs.Starts.{layouts-adds, layouts_three}

abbrev agreed : Asked
agreed = Ok tt

-- denied with fewer nodes: denied with more
denied-on : (q : Bool) (w why : Why) (x y : Asked) → (x ≡ Err why → y ≡ Err why) → pick q (Err w) x ≡ Err why → pick q (Err w) y ≡ Err why
denied-on true w why x y f e = e
denied-on false w why x y f e = f e

asked-more : (c : Counts) (words bytes : ℕ) (present amount text : Bool) (n m used : ℕ) (why : Why) → c.nodes ≤ n → n ≤ m
    → asked c words bytes present amount text n used ≡ Err why → asked c words bytes present amount text m used ≡ Err why
unfolding asked
asked-more c words bytes present amount text n m used why a b e =
    denied-on (past c words bytes) Sizes why _ _
    (denied-on (not present) Operand why _ _
    (denied-on (not amount) Amount why _ _
    (denied-on (not text) Text why _ _
    (denied-on (not (fits c.bytes used 65536 bytes)) Bytes why _ _ (last (fits c.nodes n 1024 (words / 4)) (fits c.nodes m 1024 (words / 4)) refl refl)))))
    e
  where
    last : (p q : Bool) → fits c.nodes n 1024 (words / 4) ≡ p → fits c.nodes m 1024 (words / 4) ≡ q → pick (not p) (Err Nodes) agreed ≡ Err why
        → pick (not q) (Err Nodes) agreed ≡ Err why
    last true q h k x = let z : ◌≡◌ {A = ℕ} 0 1 = cc in absurd (omega arith)
    last false true h k x = absurd (true≢false (sym k ∙ no_room c.nodes n m (words / 4) a b h))
    last false false h k x = x

-- without affixes the body, else the layouts
block_none : (s : Draft) (b : Block) (ps ss : List ℕ) (qs : List Bool) → length ps ≡ 0 → block_of s b ps ss qs ≡ older s b.body.0
unfolding block_of
block_none s b [] ss qs e = refl
block_none s b (p ∷ ps) ss qs e = absurd (omega arith)

block-some : (s : Draft) (b : Block) (ps ss : List ℕ) (qs : List Bool) → (length ps ≡ 0 → ⊥) → block_of s b ps ss qs ≡ layouts s b ps ss qs (length ps - 1)
unfolding block_of
block-some s b [] ss qs e = absurd (e refl)
block-some s b (p ∷ ps) ss qs e = ap (layouts s b (p ∷ ps) ss qs) (omega arith)

module _ (c : Counts) (table text : List ℕ) (b : Block) (ps ss : List ℕ) (qs : List Bool) where
  abbrev present : Bool
  present = operands c b ps ss

  abbrev right : Bool
  right = nest_right b.amount.0 b.way

  abbrev f : Draft → Built
  f s = block_of s b ps ss qs

  abbrev few-asked : Asked
  few-asked = asked c (length table) (length text) present right true (c.nodes + least (length ps)) (c.bytes + 0)

  all_there : present ≡ true → (b.body.0 < c.nodes) × (has_all c ps ≡ true) × (has_all c ss ≡ true)
  all_there e =
      let x = and-true (has c b.body.0) (has_all c ps && has_all c ss) e in
      let y = and-true (has_all c ps) (has_all c ss) x.1 in
      (ltb-true b.body.0 c.nodes x.0, y.0, y.1)

  -- the whole adds no byte, and what is asked at least
  enough : present ≡ true → (c.nodes + least (length ps) ≤ (f (counted c table text)).draft.counts.nodes) × ((f (counted c table text)).draft.counts.bytes ≡ c.bytes)
  unfolding block_of counted
  enough e = by ps (all_there e)
    where
      by : (xs : List ℕ) → (b.body.0 < c.nodes) × (has_all c xs ≡ true) × (has_all c ss ≡ true)
          → (c.nodes + least (length xs) ≤ (block_of (counted c table text) b xs ss qs).draft.counts.nodes) × ((block_of (counted c table text) b xs ss qs).draft.counts.bytes ≡ c.bytes)
      by [] h = (omega arith, refl)
      by (x ∷ xs) h =
          let three = layouts_three (counted c table text) b (x ∷ xs) ss qs (length xs) h.0 (below_of c (x ∷ xs) h.1) (below_of c ss h.2) in
          let adds = layouts-adds (counted c table text) b (x ∷ xs) ss qs (length xs) h.0 (below_of c (x ∷ xs) h.1) (below_of c ss h.2) in
          (rw (ne_eqb (suc (length xs)) 0 (λ z. omega arith)) three, adds.quiet)

  -- an operand that is no present node is refused whatever is asked for
  no_operand : (n m u v : ℕ) {why : Why} → present ≡ false → asked c (length table) (length text) present right true n u ≡ Err why
      → asked c (length table) (length text) present right true m v ≡ Err why
  unfolding asked
  no_operand n m u v q d = rw q (rw q at d)

  pub within-refused : (why : Why) → few-asked ≡ Err why → outcome (Err why) table text ≡ made c table text present right true f
  within-refused why d = made_denied c table text present right true f _ _ why refl refl (by present refl)
    where
      by : (q : Bool) → present ≡ q
          → asked c (length table) (length text) present right true (f (counted c table text)).draft.counts.nodes (f (counted c table text)).draft.counts.bytes ≡ Err why
      by true q =
          let n = enough q in
          rw n.1
          (asked-more c (length table) (length text) present right true (c.nodes + least (length ps)) _ c.bytes why (omega arith) n.0
          (rw (add-zero c.bytes) at d))
      by false q = no_operand _ _ _ _ q d

  module _ (granted : few-asked ≡ agreed) where
    facts : Passed c (length table) (length text) present right true (c.nodes + least (length ps)) (c.bytes + 0)
    facts = passed c (length table) (length text) present right true (c.nodes + least (length ps)) (c.bytes + 0) granted

    ready : Ready c table text
    ready = record { nodes = facts.counted-nodes; bytes = facts.counted-bytes }

    pub within-body : length ps ≡ 0 → outcome (Ok (c, b.body)) table text ≡ made c table text present right true f
    unfolding counted
    within-body z =
        let n : c.nodes + least (length ps) ≡ c.nodes = rw z (omega arith) in
        let g = rw (n, add-zero c.bytes) at granted in
        let e = (ran-older ready b.body).whole (rw (eq-eqb c.nodes c.nodes refl) refl) in
        e ∙ sym (made_granted c table text present right true f (older (counted c table text) b.body.0) (block_none (counted c table text) b ps ss qs z) g)

    module _ (some : length ps ≡ 0 → ⊥) where
      pub within_asks : Ready c table text × Askable c b ps ss × (c.nodes + 3 ≤ 1024)
      within_asks =
          let there = all_there facts.operands in
          let n : least (length ps) ≡ 3 = rw (ne_eqb (length ps) 0 some) refl in
          let fit = rw n at facts.nodes-fit in
          let limit = (fits_of c.nodes (c.nodes + 3) 1024 (length table / 4) (omega arith) fit).limited (omega arith) in (
            ready,
            record {
              bodied = record { body = there.0; amount = facts.amounts };
              before = there.1;
              behind = there.2;
              some = omega (arith, some);
            },
            limit,
          )

      pub within_last : {m : Made} {table' : List ℕ} → outcome m table' text ≡ made c table text true true true (λ s. layouts s b ps ss qs (length ps - 1))
          → outcome m table' text ≡ made c table text present right true f
      within_last o =
          rw (facts.operands, facts.amounts)
          (o ∙ made-same c table text true true true (λ s. layouts s b ps ss qs (length ps - 1)) f (sym (block-some (counted c table text) b ps ss qs some)))
