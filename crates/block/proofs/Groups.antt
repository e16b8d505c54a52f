-- Head, Tail and a wrap, part by part, as the proof of the code asks for them: two parts and a group each.
--     head_stop₁ .. head_last     a list, the guard
--     tail_stop₁ .. tail_last     a list, its join
--     wrap_stop₁ .. wrap_last     a join, the nest
-- Assumes nothing.
use Prim.Native.Nat.{ℕ, ◌<◌}
use mathlib.Core.Path.{◌≡◌}
use mathlib.Core.Bool.{Bool, true}
use mathlib.Core.List.{List}
use lib.ListN.{length}
use lib.Dec.{ltb}
use Rattle.table.specs.declared.NodeNo.{NodeNo}
use Rattle.build.specs.declared.Counts.{Counts}
use Rattle.build.specs.declared.Why.{Why}
use Rattle.build.specs.Outcome.{Made}
use Rattle.std.specs.Prelude.{Ok, Err}
use Rattle.build.specs.Draft.{Draft, Built, counted}
use Rattle.build.specs.Parts.{append}
use Rattle.build.specs.Outcome.{outcome}
use Rattle.build.specs.Constructors.{has_all, append_made, group_made}
use Rattle.build.proofs.Only.{Adds, append-adds}
use Rattle.block.specs.declared.Block.{Block}
use Rattle.block.specs.declared.Shared.{Shared}
use Rattle.block.specs.Affixes.{list, guarded, head, tail}
use Rattle.block.specs.Block.{nested, wrap}
use Rattle.block.specs.Run.{Ready, Shares, Ran}
use Rattle.block.specs.Operands.{Bodied}
use Rattle.block.proofs.Heads.{stays-there, list-adds, guarded-adds}
use Rattle.block.proofs.Layers.{nested-adds}
use Rattle.block.proofs.Chain.{At, at, ready, counted-node, start-node, start-list, shares_later, ran_append, first_stops, second_stops, group_last}
use Rattle.block.proofs.Steps.{bodied_later}

-- ---- Head: before's prefixes, then the guard

module _ {c : Counts} {table text : List ℕ} (r : Ready c table text) {sh : Shared} (j : Shares c sh) (before : List ℕ) (h : has_all c before ≡ true) where
  abbrev joined : Built
  joined = list (counted c table text) sh.none.0 before

  abbrev guard : Draft → Built
  guard s = guarded s sh joined.node (ltb 1 (length before))

  joined-adds : Adds (counted c table text) joined
  joined-adds = list-adds (counted c table text) sh.none.0 before (start-node r j.none) (start-list r before h)

  guard-adds : Adds joined.draft (guard joined.draft)
  guard-adds =
      guarded-adds joined.draft sh joined.node (ltb 1 (length before)) (stays-there joined-adds (start-node r j.guard)) joined-adds.present

  module _ {m₁ : Made} {table₁ : List ℕ} (ran₁ : Ran c table text joined m₁ table₁) where
    pub head_stop₁ : {why : Why} → m₁ ≡ Err why → Ran c table text (head (counted c table text) sh before) m₁ table₁
    unfolding head
    head_stop₁ e = first_stops r joined-adds guard guard-adds ran₁ e

    module _ {c₁ : Counts} {n₁ : NodeNo} (e₁ : m₁ ≡ Ok (c₁, n₁)) where
      after_list : At c table text joined.draft c₁ table₁ × (n₁.0 ≡ joined.node)
      after_list = at r joined-adds ran₁ e₁

      pub head_asks₂ : Ready c₁ table₁ text × Shares c₁ sh × (n₁.0 < c₁.nodes)
      head_asks₂ = (ready after_list.0, shares_later after_list.0 j, rw after_list.1 (counted-node after_list.0 joined-adds.present))

      module _ {m₂ : Made} {table₂ : List ℕ}
          (ran₂ : Ran c₁ table₁ text (guarded (counted c₁ table₁ text) sh n₁.0 (ltb 1 (length before))) m₂ table₂) where
        guard_ran : Ran c₁ table₁ text (guard (counted c₁ table₁ text)) m₂ table₂
        guard_ran = rw after_list.1 at ran₂

        pub head_stop₂ : {why : Why} → m₂ ≡ Err why → Ran c table text (head (counted c table text) sh before) m₂ table₂
        unfolding head
        head_stop₂ e = second_stops r joined-adds guard guard-adds ran₁ e₁ guard_ran e

        pub head_last : {c₂ : Counts} {n₂ : NodeNo} → m₂ ≡ Ok (c₂, n₂)
            → {m₃ : Made} {table₃ : List ℕ} → outcome m₃ table₃ text ≡ group_made c₂ table₂ text n₂.0 → Ran c table text (head (counted c table text) sh before) m₃ table₃
        unfolding head
        head_last e₂ o = group_last r joined-adds guard guard-adds ran₁ e₁ guard_ran e₂ o

-- ---- Tail: before's suffixes, joined behind Core

module _ {c : Counts} {table text : List ℕ} (r : Ready c table text) {sh : Shared} (j : Shares c sh) {n : ℕ} (there : n < c.nodes) (before : List ℕ)
    (h : has_all c before ≡ true) where
  abbrev suffixes : Built
  suffixes = list (counted c table text) sh.none.0 before

  abbrev join : Draft → Built
  join s = append s n suffixes.node

  suffixes-adds : Adds (counted c table text) suffixes
  suffixes-adds = list-adds (counted c table text) sh.none.0 before (start-node r j.none) (start-list r before h)

  still-there : n < suffixes.draft.counts.nodes
  still-there = stays-there suffixes-adds (start-node r there)

  join-adds : Adds suffixes.draft (join suffixes.draft)
  join-adds = append-adds suffixes.draft n suffixes.node still-there suffixes-adds.present

  module _ {m₁ : Made} {table₁ : List ℕ} (ran₁ : Ran c table text suffixes m₁ table₁) where
    pub tail_stop₁ : {why : Why} → m₁ ≡ Err why → Ran c table text (tail (counted c table text) sh n before) m₁ table₁
    unfolding tail
    tail_stop₁ e = first_stops r suffixes-adds join join-adds ran₁ e

    module _ {c₁ : Counts} {n₁ : NodeNo} (e₁ : m₁ ≡ Ok (c₁, n₁)) {m₂ : Made} {table₂ : List ℕ}
        (o₂ : outcome m₂ table₂ text ≡ append_made c₁ table₁ text n n₁.0) where
      join_ran : Ran c₁ table₁ text (join (counted c₁ table₁ text)) m₂ table₂
      join_ran =
          let t = at r suffixes-adds ran₁ e₁ in
          ran_append (ready t.0) n suffixes.node (counted-node t.0 still-there) (counted-node t.0 suffixes-adds.present) (rw t.1 at o₂)

      pub tail_stop₂ : {why : Why} → m₂ ≡ Err why → Ran c table text (tail (counted c table text) sh n before) m₂ table₂
      unfolding tail
      tail_stop₂ e = second_stops r suffixes-adds join join-adds ran₁ e₁ join_ran e

      pub tail_last : {c₂ : Counts} {n₂ : NodeNo} → m₂ ≡ Ok (c₂, n₂)
          → {m₃ : Made} {table₃ : List ℕ} → outcome m₃ table₃ text ≡ group_made c₂ table₂ text n₂.0 → Ran c table text (tail (counted c table text) sh n before) m₃ table₃
      unfolding tail
      tail_last e₂ o = group_last r suffixes-adds join join-adds ran₁ e₁ join_ran e₂ o

-- ---- a wrap: a prefix joined before what stands, then the nest

module _ {c : Counts} {table text : List ℕ} (r : Ready c table text) {b : Block} (k : Bodied c b) {n prefix : ℕ} (there : n < c.nodes)
    (prefix-there : prefix < c.nodes) (flag : Bool) where
  abbrev prefixed : Built
  prefixed = append (counted c table text) prefix n

  abbrev nest_it : Draft → Built
  nest_it s = nested s b prefixed.node flag

  prefixed-adds : Adds (counted c table text) prefixed
  prefixed-adds = append-adds (counted c table text) prefix n (start-node r prefix-there) (start-node r there)

  nest_it-adds : Adds prefixed.draft (nest_it prefixed.draft)
  nest_it-adds = nested-adds prefixed.draft b prefixed.node flag prefixed-adds.present

  module _ {m₁ : Made} {table₁ : List ℕ} (o₁ : outcome m₁ table₁ text ≡ append_made c table text prefix n) where
    prefixed_ran : Ran c table text prefixed m₁ table₁
    prefixed_ran = ran_append r prefix n prefix-there there o₁

    pub wrap_stop₁ : {why : Why} → m₁ ≡ Err why → Ran c table text (wrap (counted c table text) b n prefix flag) m₁ table₁
    unfolding wrap
    wrap_stop₁ e = first_stops r prefixed-adds nest_it nest_it-adds prefixed_ran e

    module _ {c₁ : Counts} {n₁ : NodeNo} (e₁ : m₁ ≡ Ok (c₁, n₁)) where
      after-join : At c table text prefixed.draft c₁ table₁ × (n₁.0 ≡ prefixed.node)
      after-join = at r prefixed-adds prefixed_ran e₁

      pub wrap_asks₂ : Ready c₁ table₁ text × Bodied c₁ b × (n₁.0 < c₁.nodes)
      wrap_asks₂ = (ready after-join.0, bodied_later after-join.0 k, rw after-join.1 (counted-node after-join.0 prefixed-adds.present))

      module _ {m₂ : Made} {table₂ : List ℕ} (ran₂ : Ran c₁ table₁ text (nested (counted c₁ table₁ text) b n₁.0 flag) m₂ table₂) where
        nest_it_ran : Ran c₁ table₁ text (nest_it (counted c₁ table₁ text)) m₂ table₂
        nest_it_ran = rw after-join.1 at ran₂

        pub wrap_stop₂ : {why : Why} → m₂ ≡ Err why → Ran c table text (wrap (counted c table text) b n prefix flag) m₂ table₂
        unfolding wrap
        wrap_stop₂ e = second_stops r prefixed-adds nest_it nest_it-adds prefixed_ran e₁ nest_it_ran e

        pub wrap_last : {c₂ : Counts} {n₂ : NodeNo} → m₂ ≡ Ok (c₂, n₂)
            → {m₃ : Made} {table₃ : List ℕ} → outcome m₃ table₃ text ≡ group_made c₂ table₂ text n₂.0 → Ran c table text (wrap (counted c table text) b n prefix flag) m₃ table₃
        unfolding wrap
        wrap_last e₂ o = group_last r prefixed-adds nest_it nest_it-adds prefixed_ran e₁ nest_it_ran e₂ o
