-- A line and its group, part by part: `softline` with a blank, `softline_` with Nil. Assumes nothing.
use Prim.Native.Nat.{ℕ, ◌+◌}
use native.Mathlib.Omega.{arith}
use mathlib.Core.Path.{◌≡◌, refl, ap, ◌∙◌}
use mathlib.Core.Bool.{true, false}
use mathlib.Core.List.{List, [], ◌∷◌}
use lib.ListN.{length}
use borrow.Author.Tests.{lt-ltb}
use Rattle.table.specs.Node.{word}
use Rattle.table.specs.declared.NodeNo.{NodeNo}
use Rattle.build.specs.declared.Counts.{Counts}
use Rattle.build.specs.declared.Why.{Why}
use Rattle.std.specs.Prelude.{Ok, Err}
use Rattle.build.specs.Draft.{Draft, Built, counts_of, counted, add}
use Rattle.build.specs.Parts.{hardline, stays, group}
use Rattle.build.specs.Outcome.{Made, asked, outcome, onward, settled}
use Rattle.build.specs.Constructors.{has, plain_made, group_made}
use Rattle.build.proofs.Grow.{Whole, Grown, same, then, whole-grown, add-grown, group-grown}
use Rattle.build.proofs.Words.{new_word}
use Rattle.build.proofs.Choices.{group-wraps}
use Rattle.build.proofs.Lines.{One, whole}
use Rattle.build.proofs.Stand.{ComesTo, start, Went, taken, refuse, Begun, begin, step, first_went, finish, first}

module _ (c : Counts) (table text : List ℕ) {flat : Draft → Built} {k : ℕ} (one : One flat k) where
  abbrev line_of : Draft → Built
  line_of s = whole c table text one s

  abbrev pub soft : Draft → Built
  soft s = let l = line_of s in group l.draft l.node

  abbrev s₀ : Draft
  s₀ = counted c table text

  line-grown : Grown s₀ (line_of s₀).draft
  line-grown =
      then (add-grown s₀ 5 0 0 0)
      (then (one.grows (hardline s₀).draft) (add-grown (flat (hardline s₀).draft).draft 3 (hardline s₀).node (flat (hardline s₀).draft).node 0))

  line-counts : (line_of s₀).draft.counts ≡ counts_of (c.nodes + 3) (c.bytes + k)
  unfolding counted
  line-counts =
      let e = one.counts (hardline s₀).draft in
      let n : (line_of s₀).draft.counts.nodes ≡ c.nodes + 3 = omega (arith, ap (λ (x : Counts). x.nodes) e) in
      let b : (line_of s₀).draft.counts.bytes ≡ c.bytes + k = ap (λ (x : Counts). x.bytes) e in
      λ i. counts_of (n i) (b i)

  -- a line is wrapped
  wraps : Whole s₀ → soft s₀ ≡ add (line_of s₀).draft 2 (line_of s₀).node 0 0
  unfolding stays
  wraps w =
      group-wraps (line_of s₀).draft (line_of s₀).node
      (by_kind
      (new_word (whole-grown w (then (add-grown s₀ 5 0 0 0) (one.grows (hardline s₀).draft))) (3 ∷ (hardline s₀).node ∷ (flat (hardline s₀).draft).node ∷ 0 ∷ []) 0))
    where
      by_kind : word (line_of s₀).draft.table (line_of s₀).node 0 ≡ 3 → stays (line_of s₀).draft (line_of s₀).node ≡ false
      by_kind e = rw e refl

  right-counts : ComesTo c table text true soft (c.nodes + 4) (c.bytes + k)
  right-counts n b t =
      let e = wraps (start c table text n b).whole in
      let l = line-counts in
      rw e (omega (arith, ap (λ (x : Counts). x.nodes) l), ap (λ (x : Counts). x.bytes) l)

  soft-refused : (why : Why) → asked c (length table) (length text) true true true (c.nodes + 4) (c.bytes + k) ≡ Err why
      → outcome (Err why) table text ≡ plain_made c table text soft
  soft-refused why d = refuse c table text true true true soft _ _ right-counts why d

  module _ (granted : asked c (length table) (length text) true true true (c.nodes + 4) (c.bytes + k) ≡ Ok tt) where
    last : Grown (line_of s₀).draft (soft s₀).draft
    last = group-grown (line_of s₀).draft (line_of s₀).node

    begun : Begun c table text true true true soft
    begun = begin c table text true true true soft (c.nodes + 4) (c.bytes + k) right-counts (then line-grown last) granted

    soft_last : {m : Made} {table₁ text₁ : List ℕ} → Went table text (line_of s₀) m table₁ text₁ → {c₁ : Counts} {n₁ : NodeNo} → m ≡ Ok (c₁, n₁)
        → {m₂ : Made} {table₂ text₂ : List ℕ} → outcome m₂ table₂ text₂ ≡ group_made c₁ table₁ text₁ n₁.0 → outcome m₂ table₂ text₂ ≡ plain_made c table text soft
    unfolding counted
    soft_last went {c₁} {n₁} e o =
        let t = taken went e in
        let o' = rw t.1 at o in
        let l = ap (λ (x : Counts). x.nodes) (t.0.counts ∙ line-counts) in
        let f = ap (λ (x : Counts). x.nodes) (one.counts (hardline s₀).draft) in
        let present : has c₁ (line_of s₀).node ≡ true = lt-ltb (line_of s₀).node c₁.nodes (omega arith) in
        finish begun (step begun t.0 (λ s. group s (line_of s₀).node) line-grown last (same (soft s₀).draft) present refl refl o')

  pub soft-made : (m : Made) (table₁ text₁ : List ℕ)
      → outcome m table₁ text₁ ≡ settled (asked c (length table) (length text) true true true (c.nodes + 4) (c.bytes + k)) (line_of s₀) table text
      → {m₂ : Made} {table₂ text₂ : List ℕ} → outcome m₂ table₂ text₂ ≡ onward m table₁ text₁ (λ c₁ n₁. group_made c₁ table₁ text₁ n₁)
      → outcome m₂ table₂ text₂ ≡ plain_made c table text soft
  soft-made m table₁ text₁ o₁ o₂ =
      first (asked c (length table) (length text) true true true (c.nodes + 4) (c.bytes + k)) (line_of s₀) table text soft-refused m table₁ text₁
      (λ c₁ n₁. group_made c₁ table₁ text₁ n₁) o₁ o₂
      (λ g c₁ n₁ e o r. soft_last g (first_went (begun g) (line_of s₀) line-grown (last g) o) e r)
