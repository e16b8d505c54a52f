-- All layouts, part by part, as the proof of the code asks for them: Nil, Fail, guard, all affixes before, the unions.
--     layouts-adds, layouts_three     they only add, and three nodes at least
--     first-stop .. unions-last
-- Assumes nothing.
use Prim.Native.Nat.{ℕ, suc, ◌+◌, ◌-◌, ◌≤◌, ◌<◌}
use native.Mathlib.Omega.{arith}
use mathlib.Core.Path.{◌≡◌, refl}
use mathlib.Core.Bool.{Bool}
use mathlib.Core.List.{List}
use lib.ListN.{length}
use Rattle.table.specs.declared.NodeNo.{NodeNo}
use Rattle.build.specs.declared.Counts.{Counts}
use Rattle.build.specs.declared.Why.{Why}
use Rattle.build.specs.Outcome.{Made}
use Rattle.std.specs.Prelude.{Ok, Err}
use Rattle.build.specs.Draft.{Draft, Built, counted}
use Rattle.build.specs.Parts.{nil, fail, flat_alt}
use Rattle.build.specs.Outcome.{outcome}
use Rattle.build.specs.Constructors.{nil_made, fail_made, flat_alt_made}
use Rattle.build.proofs.Grow.{more-nodes}
use Rattle.build.proofs.Joins.{Below, below_more, below_of}
use Rattle.build.proofs.Only.{Adds, adds_then, nil-adds, fail-adds, flat_alt-adds}
use Rattle.block.specs.declared.Block.{Block}
use Rattle.block.specs.declared.Shared.{Shared}
use Rattle.block.specs.Block.{alternative, unions, layouts}
use Rattle.block.specs.Run.{Ready, Ran}
use Rattle.block.specs.Operands.{AllPresent, Askable}
use Rattle.block.proofs.Heads.{of-below, stays-there, stay-below}
use Rattle.block.proofs.Layers.{On, on_still, alternative-adds, unions-adds}
use Rattle.block.proofs.Chain.{At, begin, ready, later, start-node, start-list, go, go-made, at, stop, counted-node, two}
use Rattle.block.proofs.Steps.{bodied_later}

abbrev shared_of : ℕ → ℕ → Shared
shared_of none guard = record { none = record { 0 = none }; guard = record { 0 = guard } }

-- the guard nodes of a draft
module _ (s : Draft) where
  abbrev b₁ : Built
  b₁ = nil s

  abbrev b₂ : Built
  b₂ = fail b₁.draft

  abbrev b₃ : Built
  b₃ = flat_alt b₂.draft b₂.node b₁.node

  abbrev sh : Shared
  sh = shared_of b₁.node b₃.node

  d₁ : Adds s b₁
  d₁ = nil-adds s

  d₂ : Adds b₁.draft b₂
  d₂ = fail-adds b₁.draft

  d₃ : Adds b₂.draft b₃
  d₃ = flat_alt-adds b₂.draft b₂.node b₁.node

  d₁₂₃ : Adds s b₃
  d₁₂₃ = adds_then d₁ (adds_then d₂ d₃)

  none-there : b₁.node < b₃.draft.counts.nodes
  none-there = stays-there d₃ (stays-there d₂ d₁.present)

  module _ (b : Block) (ps ss : List ℕ) (qs : List Bool) (others : ℕ) (body : b.body.0 < s.counts.nodes) (before : Below s.counts.nodes ps)
      (behind : Below s.counts.nodes ss) where
    abbrev b₄ : Built
    b₄ = alternative b₃.draft b sh ps ss qs (suc others)

    on : On b₃.draft.counts.nodes b sh ps ss
    on = record { body = stays-there d₁₂₃ body; none = none-there; guard = d₃.present; before = stay-below d₁₂₃ ps before; behind = stay-below d₁₂₃ ss behind }

    d₄ : Adds b₃.draft b₄
    d₄ = alternative-adds b sh ps ss qs b₃.draft (suc others) on

    d₅ : Adds b₄.draft (layouts s b ps ss qs others)
    unfolding layouts
    d₅ = unions-adds b sh ps ss qs b₄.draft b₄.node others d₄.present (on_still d₄ on)

    pub layouts-adds : Adds s (layouts s b ps ss qs others)
    layouts-adds = adds_then d₁₂₃ (adds_then d₄ d₅)

    pub layouts_three : s.counts.nodes + 3 ≤ (layouts s b ps ss qs others).draft.counts.nodes
    layouts_three = let g = more-nodes (adds_then d₄ d₅).grown in omega arith

-- ---- part by part

module _ {c : Counts} {table text : List ℕ} (r : Ready c table text) {b : Block} {ps ss : List ℕ} (k : Askable c b ps ss) (qs : List Bool) where
  abbrev s₀ : Draft
  s₀ = counted c table text

  abbrev others : ℕ
  others = length ps - 1

  abbrev whole : Built
  whole = layouts s₀ b ps ss qs others

  the-body : b.body.0 < s₀.counts.nodes
  the-body = start-node r k.bodied.body

  the-before : Below s₀.counts.nodes ps
  the-before = start-list r ps k.before

  the-behind : Below s₀.counts.nodes ss
  the-behind = start-list r ss k.behind

  a₄ : Adds (b₃ s₀).draft (b₄ s₀ b ps ss qs others the-body the-before the-behind)
  a₄ = d₄ s₀ b ps ss qs others the-body the-before the-behind

  a₅ : Adds (b₄ s₀ b ps ss qs others the-body the-before the-behind).draft whole
  a₅ = d₅ s₀ b ps ss qs others the-body the-before the-behind

  a₁₂ : Adds s₀ (b₂ s₀)
  a₁₂ = adds_then (d₁ s₀) (d₂ s₀)

  module _ {m₁ : Made} {table₁ : List ℕ} (o₁ : outcome m₁ table₁ text ≡ nil_made c table text) where
    so₁ : Ran c table text (b₁ s₀) m₁ table₁
    so₁ = go-made (begin r) nil (d₁ s₀) refl refl o₁

    pub start_stop₁ : {why : Why} → m₁ ≡ Err why → Ran c table text whole m₁ table₁
    start_stop₁ x = stop r (d₁ s₀) so₁ x (adds_then (d₂ s₀) (adds_then (d₃ s₀) (adds_then a₄ a₅)))

    module _ {c₁ : Counts} {n₁ : NodeNo} (x₁ : m₁ ≡ Ok (c₁, n₁)) {m₂ : Made} {table₂ : List ℕ} (o₂ : outcome m₂ table₂ text ≡ fail_made c₁ table₁ text) where
      so₂ : Ran c table text (b₂ s₀) m₂ table₂
      so₂ = go-made (at r (d₁ s₀) so₁ x₁).0 fail (d₂ s₀) refl refl o₂

      pub start_stop₂ : {why : Why} → m₂ ≡ Err why → Ran c table text whole m₂ table₂
      start_stop₂ x = stop r a₁₂ so₂ x (adds_then (d₃ s₀) (adds_then a₄ a₅))

      module _ {c₂ : Counts} {n₂ : NodeNo} (x₂ : m₂ ≡ Ok (c₂, n₂)) {m₃ : Made} {table₃ : List ℕ}
          (o₃ : outcome m₃ table₃ text ≡ flat_alt_made c₂ table₂ text n₂.0 n₁.0) where
        so₃ : Ran c table text (b₃ s₀) m₃ table₃
        so₃ =
            let t = at r a₁₂ so₂ x₂ in
            let n = (at r (d₁ s₀) so₁ x₁).1 in
            go-made t.0 (λ s. flat_alt s (b₂ s₀).node (b₁ s₀).node) (d₃ s₀)
            (two t.0 (b₂ s₀).node (b₁ s₀).node (d₂ s₀).present (stays-there (d₂ s₀) (d₁ s₀).present)) refl (rw (t.1, n) at o₃)

        pub start_stop₃ : {why : Why} → m₃ ≡ Err why → Ran c table text whole m₃ table₃
        start_stop₃ x = stop r (d₁₂₃ s₀) so₃ x (adds_then a₄ a₅)

        module _ {c₃ : Counts} {n₃ : NodeNo} (x₃ : m₃ ≡ Ok (c₃, n₃)) where
          t₃ : At c table text (b₃ s₀).draft c₃ table₃ × (n₃.0 ≡ (b₃ s₀).node)
          t₃ = at r (d₁₂₃ s₀) so₃ x₃

          -- the shared nodes as the code holds them
          shared-is : record { none = n₁; guard = n₃ } ≡ sh s₀
          shared-is = let n = (at r (d₁ s₀) so₁ x₁).1 in λ i. record { none = record { 0 = n i }; guard = record { 0 = t₃.1 i } }

          all-present : AllPresent c₃ b (record { none = n₁; guard = n₃ }) ps ss
          all-present =
              let l = later t₃.0 in
              rw shared-is
              (record {
                bodied = bodied_later t₃.0 k.bodied;
                shares = record { none = counted-node t₃.0 (none-there s₀); guard = counted-node t₃.0 (d₃ s₀).present };
                before = of-below c₃ ps (below_more ps l (below_of c ps k.before));
                behind = of-below c₃ ss (below_more ss l (below_of c ss k.behind));
              })

          pub start_asks₄ : Ready c₃ table₃ text × AllPresent c₃ b (record { none = n₁; guard = n₃ }) ps ss × (length ps ≤ length ps)
          start_asks₄ = (ready t₃.0, all-present, omega arith)

          module _ {m₄ : Made} {table₄ : List ℕ}
              (ran₄ : Ran c₃ table₃ text (alternative (counted c₃ table₃ text) b (record { none = n₁; guard = n₃ }) ps ss qs (length ps)) m₄ table₄) where
            so₄ : Ran c table text (b₄ s₀ b ps ss qs others the-body the-before the-behind) m₄ table₄
            so₄ =
                let all : length ps ≡ suc others = let h = k.some in omega arith in
                go t₃.0 (λ s. alternative s b (sh s₀) ps ss qs (suc others)) a₄ (rw (shared-is, all) at ran₄)

            pub start_stop₄ : {why : Why} → m₄ ≡ Err why → Ran c table text whole m₄ table₄
            start_stop₄ x = stop r (adds_then (d₁₂₃ s₀) a₄) so₄ x a₅

            module _ {c₄ : Counts} {n₄ : NodeNo} (x₄ : m₄ ≡ Ok (c₄, n₄)) where
              t₄ : At c table text (b₄ s₀ b ps ss qs others the-body the-before the-behind).draft c₄ table₄ × (n₄.0 ≡ (b₄ s₀ b ps ss qs others the-body the-before the-behind).node)
              t₄ = at r (adds_then (d₁₂₃ s₀) a₄) so₄ x₄

              pub start_asks₅ : Ready c₄ table₄ text × AllPresent c₄ b (record { none = n₁; guard = n₃ }) ps ss × (length ps - 1 ≤ length ps) × (n₄.0 < c₄.nodes)
              start_asks₅ =
                  let l = later t₄.0 in (
                    ready t₄.0,
                    rw shared-is
                        (record {
                          bodied = bodied_later t₄.0 k.bodied;
                          shares =
                              record { none = counted-node t₄.0 (stays-there a₄ (none-there s₀)); guard = counted-node t₄.0 (stays-there a₄ (d₃ s₀).present) };
                          before = of-below c₄ ps (below_more ps l (below_of c ps k.before));
                          behind = of-below c₄ ss (below_more ss l (below_of c ss k.behind));
                        }),
                    omega arith,
                    rw t₄.1 (counted-node t₄.0 a₄.present),
                  )

              pub start_last : {m₅ : Made} {table₅ : List ℕ}
                  → Ran c₄ table₄ text (unions (counted c₄ table₄ text) b (record { none = n₁; guard = n₃ }) ps ss qs n₄.0 (length ps - 1)) m₅ table₅
                  → Ran c table text whole m₅ table₅
              unfolding layouts
              start_last ran₅ =
                  go t₄.0 (λ s. unions s b (sh s₀) ps ss qs (b₄ s₀ b ps ss qs others the-body the-before the-behind).node others) a₅ (rw (shared-is, t₄.1) at ran₅)
