-- Nest, by itself or with nodes behind it, and Nest and Align: `hang`. Assumes nothing.
use Prim.Native.Nat.{ℕ, ◌+◌, ◌/◌, ◌≤◌, ◌<◌}
use native.Mathlib.Omega.{arith}
use native.Mathlib.Nat.{add-zero}
use mathlib.Core.Path.{◌≡◌, refl, sym, ap, ◌∙◌}
use mathlib.Core.Bool.{Bool, true, false, ◌||◌}
use mathlib.Core.List.{List}
use lib.ListN.{length}
use lib.Dec.{eqb}
use borrow.Author.Tests.{lt-ltb, ltb-true}
use Rattle.choice.specs.Pick.{pick}
use Rattle.table.specs.declared.NodeNo.{NodeNo}
use Rattle.build.specs.declared.Counts.{Counts}
use Rattle.build.specs.declared.Why.{Why}
use Rattle.std.specs.Prelude.{Ok, Err}
use Rattle.build.specs.Draft.{Draft, counts_of, counted, older, add}
use Rattle.build.specs.Parts.{is_nil, nest, align, hang}
use Rattle.build.specs.Solid.{nest_adds}
use Rattle.build.specs.Outcome.{Made, Asked, Outcome, asked, outcome, settled}
use Rattle.build.specs.Constructors.{has, nest_right, nest_made, align_made, hang_made}
use Rattle.build.proofs.Grow.{Grown, same, add-grown, nest-grown, hang-grown}
use Rattle.build.proofs.Choices.{nest-stays, nest-wraps}
use Rattle.build.proofs.Stand.{ComesTo, taken, refuse, settle, Begun, begin, step, first_went, finish, first_denied, first_granted}

pub nest-counts : (s : Draft) (n amount way : ℕ) → (nest s n amount way).draft.counts ≡ counts_of (s.counts.nodes + nest_adds s.table n amount) s.counts.bytes
unfolding nest nest_adds
nest-counts s n amount way = go (is_nil s n || eqb amount 0)
  where
    go : (q : Bool) → (pick q (older s n) (add s 4 n amount way)).draft.counts ≡ counts_of (s.counts.nodes + pick q 0 1) s.counts.bytes
    go true = ap (λ (x : ℕ). counts_of x s.counts.bytes) (sym (add-zero s.counts.nodes))
    go false = refl

pub hang-counts : (s : Draft) (n amount way : ℕ)
    → (hang s n amount way).draft.counts ≡ counts_of (s.counts.nodes + (nest_adds s.table n amount + 1)) s.counts.bytes
unfolding hang
hang-counts s n amount way =
    let e = nest-counts s n amount way in
    let h : (nest s n amount way).draft.counts.nodes + 1 ≡ s.counts.nodes + (nest_adds s.table n amount + 1) = omega (arith, ap (λ (x : Counts). x.nodes) e) in
    λ i. counts_of (h i) (e i).bytes

pub nest-present : (s : Draft) (n amount way : ℕ) → n < s.counts.nodes → (nest s n amount way).node < (nest s n amount way).draft.counts.nodes
unfolding nest
nest-present s n amount way h = go (is_nil s n || eqb amount 0)
  where
    go : (q : Bool) → (pick q (older s n) (add s 4 n amount way)).node < (pick q (older s n) (add s 4 n amount way)).draft.counts.nodes
    go true = h
    go false = omega arith

module _ (c : Counts) (table text : List ℕ) (n amount way : ℕ) where
  abbrev s₀ : Draft
  s₀ = counted c table text

  abbrev adds : ℕ
  adds = nest_adds s₀.table n amount

  -- a Nest that is asked for with so many nodes behind it
  abbrev pub nest-asked : ℕ → Asked
  nest-asked nodes = asked c (length table) (length text) (has c n) (nest_right amount way) true (c.nodes + nodes) (c.bytes + 0)

  module _ (more : ℕ) where
    pub nest_kept : is_nil s₀ n || eqb amount 0 ≡ true → {r : Outcome} → r ≡ settled (nest-asked more) (older s₀ n) table text
        → r ≡ settled (nest-asked (adds + more)) (nest s₀ n amount way) table text
    nest_kept e o =
        let a : more ≡ adds + more = unfold nest_adds in rw e (omega arith) in
        let b = sym (nest-stays s₀ n amount way e) in
        o ∙ (λ i. settled (nest-asked (a i)) (b i) table text)

    pub nest-wrapped : is_nil s₀ n || eqb amount 0 ≡ false → {r : Outcome} → r ≡ settled (nest-asked (1 + more)) (add s₀ 4 n amount way) table text
        → r ≡ settled (nest-asked (adds + more)) (nest s₀ n amount way) table text
    nest-wrapped e o =
        let a : 1 + more ≡ adds + more = unfold nest_adds in rw e (omega arith) in
        let b = sym (nest-wraps s₀ n amount way e) in
        o ∙ (λ i. settled (nest-asked (a i)) (b i) table text)

  pub nest_alone : {r : Outcome} → r ≡ settled (nest-asked (adds + 0)) (nest s₀ n amount way) table text → r ≡ nest_made c table text n amount way
  unfolding counted
  nest_alone e = e ∙ settle c table text (has c n) (nest_right amount way) true (λ s. nest s n amount way) (c.nodes + (adds + 0)) (c.bytes + 0) counts
    where
      counts : c.nodes ≤ length table / 4 → c.bytes ≤ length text → has c n ≡ true
          → ((nest s₀ n amount way).draft.counts.nodes ≡ c.nodes + (adds + 0)) × ((nest s₀ n amount way).draft.counts.bytes ≡ c.bytes + 0)
      counts h b p =
          let e = nest-counts s₀ n amount way in
          (omega (arith, ap (λ (x : Counts). x.nodes) e), ap (λ (x : Counts). x.bytes) e ∙ sym (add-zero c.bytes))

  -- ---- and Align

  right-counts : ComesTo c table text (has c n) (λ s. hang s n amount way) (c.nodes + (adds + 1)) (c.bytes + 0)
  unfolding counted
  right-counts h b p =
      let e = hang-counts s₀ n amount way in
      (ap (λ (x : Counts). x.nodes) e, ap (λ (x : Counts). x.bytes) e ∙ sym (add-zero c.bytes))

  last : Grown (nest s₀ n amount way).draft (hang s₀ n amount way).draft
  unfolding hang
  last = add-grown (nest s₀ n amount way).draft 9 (nest s₀ n amount way).node 0 0

  module _ {m : Made} {table₁ text₁ : List ℕ} (o₁ : outcome m table₁ text₁ ≡ settled (nest-asked (adds + 1)) (nest s₀ n amount way) table text) where
    pub hang-refused : {why : Why} → m ≡ Err why → outcome m table₁ text₁ ≡ hang_made c table text n amount way
    hang-refused e =
        first_denied (nest-asked (adds + 1)) (nest s₀ n amount way) table text o₁
        (refuse c table text (has c n) (nest_right amount way) true (λ s. hang s n amount way) _ _ right-counts) e

    pub hang-made : {c₁ : Counts} {n₁ : NodeNo} → m ≡ Ok (c₁, n₁) → {m₂ : Made} {table₂ text₂ : List ℕ} → outcome m₂ table₂ text₂ ≡ align_made c₁ table₁ text₁ n₁.0
        → outcome m₂ table₂ text₂ ≡ hang_made c table text n amount way
    unfolding counted hang
    hang-made {c₁} {n₁} e o =
        let g = first_granted (nest-asked (adds + 1)) (nest s₀ n amount way) table text o₁ e in
        let begun : Begun c table text (has c n) (nest_right amount way) true (λ s. hang s n amount way) =
        begin c table text (has c n) (nest_right amount way) true (λ s. hang s n amount way) (c.nodes + (adds + 1)) (c.bytes + 0) right-counts
        (hang-grown s₀ n amount way) g.0 in
        let t = taken (first_went begun (nest s₀ n amount way) (nest-grown s₀ n amount way) last g.1) e in
        let o' = rw t.1 at o in
        let h = nest-present s₀ n amount way (ltb-true n c.nodes begun.facts.operands) in
        let present : has c₁ (nest s₀ n amount way).node ≡ true = rw t.0.counts (lt-ltb _ _ h) in
        finish begun
        (step begun t.0 (λ s. align s (nest s₀ n amount way).node) (nest-grown s₀ n amount way) last (same (hang s₀ n amount way).draft) present refl refl o')
