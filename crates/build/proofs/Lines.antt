-- FlatAlt of a Hardline and one node more, part by part: `line` with a blank, `line_` with Nil. Assumes nothing.
use Prim.Native.Nat.{ℕ, ◌+◌, ◌≤◌}
use native.Mathlib.Omega.{arith}
use native.Mathlib.Nat.{add-zero}
use mathlib.Core.Path.{◌≡◌, refl, sym, ap, ◌∙◌}
use mathlib.Core.Bool.{true, ◌&&◌}
use mathlib.Core.List.{List, [], ◌∷◌}
use lib.ListN.{length}
use borrow.Author.Tests.{lt-ltb}
use Rattle.table.specs.declared.NodeNo.{NodeNo}
use Rattle.build.specs.declared.Counts.{Counts}
use Rattle.build.specs.declared.Why.{Why}
use Rattle.std.specs.Prelude.{Ok, Err}
use Rattle.build.specs.Draft.{Draft, Built, counts_of, counted}
use Rattle.build.specs.Parts.{nil, text, space, hardline, flat_alt}
use Rattle.build.specs.Outcome.{Made, Asked, Outcome, asked, outcome, onward, settled}
use Rattle.build.specs.Constructors.{has, plain_made, flat_alt_made}
use Rattle.build.proofs.Grow.{Grown, same, then, add-grown, text-grown}
use Rattle.build.proofs.Room.{stretch, allowed, granted}
use Rattle.build.proofs.Stand.{ComesTo, Went, gone, taken, settle, Begun, begin, step, first_went, finish, first_denied, first_granted}

-- one node and k bytes
pub record One (flat : Draft → Built) (k : ℕ) : Type 0 where
  pub grows : (s : Draft) → Grown s (flat s).draft
  pub counts : (s : Draft) → (flat s).draft.counts ≡ counts_of (s.counts.nodes + 1) (s.counts.bytes + k)
  pub new : (s : Draft) → (flat s).node ≡ s.counts.nodes

pub nil_one : One nil 0
nil_one = record { grows = λ s. add-grown s 0 0 0 0; counts = λ s. ap (counts_of (s.counts.nodes + 1)) (sym (add-zero s.counts.bytes)); new = λ s. refl }

pub space_one : One space 1
unfolding text
space_one = record { grows = λ s. text-grown s (32 ∷ []) 1; counts = λ s. refl; new = λ s. refl }

module _ (c : Counts) (table text : List ℕ) {flat : Draft → Built} {k : ℕ} (one : One flat k) where
  abbrev pub whole : Draft → Built
  whole s =
      let broken = hardline s in
      let other = flat broken.draft in
      flat_alt other.draft broken.node other.node

  abbrev s₀ : Draft
  s₀ = counted c table text

  abbrev s₁ : Draft
  s₁ = (hardline s₀).draft

  abbrev s₂ : Draft
  s₂ = (flat s₁).draft

  right-counts : ComesTo c table text true whole (c.nodes + 3) (c.bytes + k)
  unfolding counted
  right-counts n b t =
      let e = one.counts s₁ in
      (omega (arith, ap (λ (x : Counts). x.nodes) e), omega (arith, ap (λ (x : Counts). x.bytes) e))

  module _ (granted₃ : asked c (length table) (length text) true true true (c.nodes + 3) (c.bytes + k) ≡ Ok tt) where
    last : Grown s₂ (whole s₀).draft
    last = add-grown s₂ 3 (hardline s₀).node (flat s₁).node 0

    begun : Begun c table text true true true whole
    begun = begin c table text true true true whole (c.nodes + 3) (c.bytes + k) right-counts (then (add-grown s₀ 5 0 0 0) (then (one.grows s₁) last)) granted₃

    module _ {m : Made} {table₁ text₁ : List ℕ} (went : Went table text (hardline s₀) m table₁ text₁) {c₁ : Counts} {n₁ : NodeNo} (e : m ≡ Ok (c₁, n₁)) where
      line_second : {m₂ : Made} {table₂ text₂ : List ℕ} → outcome m₂ table₂ text₂ ≡ plain_made c₁ table₁ text₁ flat → Went table text (flat s₁) m₂ table₂ text₂
      line_second o = step begun (taken went e).0 flat (add-grown s₀ 5 0 0 0) (one.grows s₁) last refl refl refl o

      module _ {m₂ : Made} {table₂ text₂ : List ℕ} (went₂ : Went table text (flat s₁) m₂ table₂ text₂) {c₂ : Counts} {n₂ : NodeNo} (e₂ : m₂ ≡ Ok (c₂, n₂)) where
        operands : has c₂ (hardline s₀).node && has c₂ (flat s₁).node ≡ true
        unfolding counted
        operands =
            let b = one.new s₁ in
            let d = ap (λ (x : Counts). x.nodes) ((taken went₂ e₂).0.counts ∙ one.counts s₁) in
            rw (lt-ltb c.nodes c₂.nodes (omega arith), lt-ltb (flat s₁).node c₂.nodes (omega arith)) refl

        line_last : {m₃ : Made} {table₃ text₃ : List ℕ} → outcome m₃ table₃ text₃ ≡ flat_alt_made c₂ table₂ text₂ n₁.0 n₂.0
            → outcome m₃ table₃ text₃ ≡ plain_made c table text whole
        line_last o =
            let o' = rw ((taken went e).1, (taken went₂ e₂).1) at o in
            finish begun
            (step begun (taken went₂ e₂).0 (λ s. flat_alt s (hardline s₀).node (flat s₁).node) (then (add-grown s₀ 5 0 0 0) (one.grows s₁)) last
            (same (whole s₀).draft) operands refl refl o')

  -- ---- with its first part so many nodes are asked for

  pub line_alone : {r : Outcome} → r ≡ settled (asked c (length table) (length text) true true true (c.nodes + 3) (c.bytes + k)) (whole s₀) table text
      → r ≡ plain_made c table text whole
  line_alone e = e ∙ settle c table text true true true whole (c.nodes + 3) (c.bytes + k) right-counts

  module _ (nodes : ℕ) (enough : 3 ≤ nodes) where
    abbrev line-asked : Asked
    line-asked = asked c (length table) (length text) true true true (c.nodes + nodes) (c.bytes + k)

    fewer : line-asked ≡ Ok tt → asked c (length table) (length text) true true true (c.nodes + 3) (c.bytes + k) ≡ Ok tt
    fewer g =
        let a = allowed c (counts_of (c.nodes + nodes) (c.bytes + k)) (length table) (length text) true true true (omega arith) (omega arith) g in
        granted {d = counts_of (c.nodes + 3) (c.bytes + k)}
        (record {
          counted-nodes = a.counted-nodes;
          counted-bytes = a.counted-bytes;
          operands = refl;
          amounts = refl;
          texts = refl;
          room = record { nodes = stretch c.nodes (c.nodes + 3) a.room.nodes (omega arith) (omega arith) (omega arith); used = a.room.used };
        })

    module _ {m : Made} {table₁ text₁ : List ℕ} (o₁ : outcome m table₁ text₁ ≡ settled line-asked (hardline s₀) table text) where
      pub line_refused : {why : Why} → m ≡ Err why → outcome m table₁ text₁ ≡ settled line-asked (whole s₀) table text
      line_refused e = first_denied line-asked (hardline s₀) table text o₁ (λ why q. rw q refl) e

      pub line_made_lem : {c₁ : Counts} {n₁ : NodeNo} → m ≡ Ok (c₁, n₁) → (m₂ : Made) (table₂ text₂ : List ℕ) → outcome m₂ table₂ text₂ ≡ plain_made c₁ table₁ text₁ flat
          → {m₃ : Made} {table₃ text₃ : List ℕ} → outcome m₃ table₃ text₃ ≡ onward m₂ table₂ text₂ (λ c₂ n₂. flat_alt_made c₂ table₂ text₂ n₁.0 n₂)
          → outcome m₃ table₃ text₃ ≡ settled line-asked (whole s₀) table text
      line_made_lem {c₁} {n₁} e m₂ table₂ text₂ o₂ o₃ =
          let g = first_granted line-asked (hardline s₀) table text o₁ e in
          let g₃ = fewer g.0 in
          let went = first_went (begun g₃) (hardline s₀) (add-grown s₀ 5 0 0 0) (then (one.grows s₁) (last g₃)) g.1 in
          let went₂ = line_second g₃ went e o₂ in
          line_last g₃ went e went₂ went₂.answer (o₃ ∙ gone went₂ (λ c₂ n₂. flat_alt_made c₂ table₂ text₂ n₁.0 n₂))
          ∙ (begun g₃).whole
          ∙ ap (λ (a : Asked). settled a (whole s₀) table text) (sym g.0)
