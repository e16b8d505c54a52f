-- Core, part by part, as the proof of the code asks for them.
--     bodied_later               what is there stays there
--     core_stop₁ .. core_last    guard, nest, suffixes, join
-- Assumes nothing.
use Prim.Native.Nat.{ℕ, ◌<◌}
use native.Mathlib.Omega.{arith}
use mathlib.Core.Path.{◌≡◌, refl}
use mathlib.Core.Bool.{Bool, true}
use mathlib.Core.List.{List}
use Rattle.table.specs.declared.NodeNo.{NodeNo}
use Rattle.build.specs.declared.Counts.{Counts}
use Rattle.build.specs.declared.Why.{Why}
use Rattle.build.specs.Outcome.{Made}
use Rattle.std.specs.Prelude.{Ok, Err}
use Rattle.build.specs.Draft.{Draft, Built, counted}
use Rattle.build.specs.Parts.{append}
use Rattle.build.specs.Outcome.{outcome}
use Rattle.build.specs.Constructors.{has_all, append_made}
use Rattle.build.proofs.Only.{Adds, adds_then, append-adds}
use Rattle.block.specs.declared.Block.{Block}
use Rattle.block.specs.declared.Shared.{Shared}
use Rattle.block.specs.Affixes.{list, guarded}
use Rattle.block.specs.Block.{nested, core}
use Rattle.block.specs.Run.{Ready, Shares, Ran}
use Rattle.block.specs.Operands.{Bodied}
use Rattle.block.proofs.Heads.{stays-there, stay-below, list-adds, guarded-adds}
use Rattle.block.proofs.Layers.{nested-adds}
use Rattle.block.proofs.Chain.{At, ready, later, start-node, start-list, go, go-made, at, stop, counted-node, counted-list, shares_later, two}

module _ {c : Counts} {table text : List ℕ} {s : Draft} {c₁ : Counts} {table₁ : List ℕ} (a : At c table text s c₁ table₁) where
  pub bodied_later : {b : Block} → Bodied c b → Bodied c₁ b
  bodied_later k = let l = later a in record { body = omega (arith, k.body); amount = k.amount }

-- ---- Core

module _ {c : Counts} {table text : List ℕ} (r : Ready c table text) {b : Block} (k : Bodied c b) {sh : Shared} (j : Shares c sh) (q : Bool) (after : List ℕ)
    (h : has_all c after ≡ true) where
  abbrev s₀ : Draft
  s₀ = counted c table text

  abbrev b₁ : Built
  b₁ = guarded s₀ sh b.body.0 q

  abbrev b₂ : Built
  b₂ = nested b₁.draft b b₁.node true

  abbrev b₃ : Built
  b₃ = list b₂.draft sh.none.0 after

  d₁ : Adds s₀ b₁
  d₁ = guarded-adds s₀ sh b.body.0 q (start-node r j.guard) (start-node r k.body)

  d₂ : Adds b₁.draft b₂
  d₂ = nested-adds b₁.draft b b₁.node true d₁.present

  d₁₂ : Adds s₀ b₂
  d₁₂ = adds_then d₁ d₂

  d₃ : Adds b₂.draft b₃
  d₃ = list-adds b₂.draft sh.none.0 after (stays-there d₁₂ (start-node r j.none)) (stay-below d₁₂ after (start-list r after h))

  d₄ : Adds b₃.draft (core s₀ b sh q after)
  unfolding core
  d₄ = append-adds b₃.draft b₂.node b₃.node (stays-there d₃ d₂.present) d₃.present

  module _ {m₁ : Made} {table₁ : List ℕ} (ran₁ : Ran c table text b₁ m₁ table₁) where
    pub core_stop₁ : {why : Why} → m₁ ≡ Err why → Ran c table text (core s₀ b sh q after) m₁ table₁
    core_stop₁ e = stop r d₁ ran₁ e (adds_then d₂ (adds_then d₃ d₄))

    module _ {c₁ : Counts} {n₁ : NodeNo} (e₁ : m₁ ≡ Ok (c₁, n₁)) where
      pub core_asks₂ : Ready c₁ table₁ text × Bodied c₁ b × (n₁.0 < c₁.nodes)
      core_asks₂ = let t = at r d₁ ran₁ e₁ in (ready t.0, bodied_later t.0 k, rw t.1 (counted-node t.0 d₁.present))

      module _ {m₂ : Made} {table₂ : List ℕ} (ran₂ : Ran c₁ table₁ text (nested (counted c₁ table₁ text) b n₁.0 true) m₂ table₂) where
        so₂ : Ran c table text b₂ m₂ table₂
        so₂ = let t = at r d₁ ran₁ e₁ in go t.0 (λ s. nested s b b₁.node true) d₂ (rw t.1 at ran₂)

        pub core_stop₂ : {why : Why} → m₂ ≡ Err why → Ran c table text (core s₀ b sh q after) m₂ table₂
        core_stop₂ e = stop r d₁₂ so₂ e (adds_then d₃ d₄)

        module _ {c₂ : Counts} {n₂ : NodeNo} (e₂ : m₂ ≡ Ok (c₂, n₂)) where
          pub core_asks₃ : Ready c₂ table₂ text × (sh.none.0 < c₂.nodes) × (has_all c₂ after ≡ true)
          core_asks₃ = let t = at r d₁₂ so₂ e₂ in (ready t.0, (shares_later t.0 j).none, counted-list t.0 after (stay-below d₁₂ after (start-list r after h)))

          module _ {m₃ : Made} {table₃ : List ℕ} (ran₃ : Ran c₂ table₂ text (list (counted c₂ table₂ text) sh.none.0 after) m₃ table₃) where
            so₃ : Ran c table text b₃ m₃ table₃
            so₃ = go (at r d₁₂ so₂ e₂).0 (λ s. list s sh.none.0 after) d₃ ran₃

            pub core_stop₃ : {why : Why} → m₃ ≡ Err why → Ran c table text (core s₀ b sh q after) m₃ table₃
            core_stop₃ e = stop r (adds_then d₁₂ d₃) so₃ e d₄

            pub core_last : {c₃ : Counts} {n₃ : NodeNo} → m₃ ≡ Ok (c₃, n₃) → {m₄ : Made} {table₄ : List ℕ}
                → outcome m₄ table₄ text ≡ append_made c₃ table₃ text n₂.0 n₃.0 → Ran c table text (core s₀ b sh q after) m₄ table₄
            unfolding core
            core_last e₃ o =
                let t = at r (adds_then d₁₂ d₃) so₃ e₃ in
                let n = (at r d₁₂ so₂ e₂).1 in
                go-made t.0 (λ s. append s b₂.node b₃.node) d₄ (two t.0 b₂.node b₃.node (stays-there d₃ d₂.present) d₃.present) refl
                (rw (n, t.1) at o)
