-- One node, or an older one: what is asked, what is answered and what is left come to the definition.
--     older-settled, given_back              an older node, with more asked for or by itself
--     node-room, node_granted, node_alone    one node, the first of so many or by itself
--     by-operands                            the test of operands as the code has it
--     append-.., group-..                    Append and Group, by the case that the code takes
-- Assumes nothing.
use Prim.Native.Nat.{ℕ, ◌+◌, ◌*◌, ◌<◌}
use native.Mathlib.Omega.{arith}
use native.Mathlib.Nat.{add-zero}
use mathlib.Core.Path.{◌≡◌, refl, sym, ap, ◌∙◌}
use mathlib.Core.Bool.{Bool, true, false}
use mathlib.Core.List.{List, [], ◌∷◌, ◌++◌}
use lib.ListN.{length, take}
use Rattle.table.specs.declared.NodeNo.{NodeNo}
use Rattle.table.specs.declared.Words.{Words}
use Rattle.build.specs.declared.Counts.{Counts}
use Rattle.std.specs.Prelude.{Ok, Err}
use Rattle.build.specs.declared.Asks.{Asks}
use Rattle.build.specs.Draft.{Draft, Built, counts_of, counted, over, older, add}
use Rattle.build.specs.Outcome.{Made, Asked, Outcome, asked, asked_for, answered, outcome, added, settled, made}
use Rattle.build.proofs.Room.{Allowed, allowed}
use Rattle.build.specs.Parts.{is_nil, stays, append, group}
use Rattle.build.proofs.Choices.{append_left, append_right, append_both, group-stays, group-wraps}
use Rattle.build.proofs.Stand.{over-front, made-same, settle}

module _ (c : Counts) (table text : List ℕ) (present amount : Bool) where
  -- an older node, where so many more are asked for
  module _ (n : NodeNo) where
    abbrev older-asked : ℕ → Asked
    older-asked more = asked c (length table) (length text) present amount true (c.nodes + more) (c.bytes + 0)

    pub older-settled : (more : ℕ) {r : Made} → r ≡ answered (older-asked more) (Ok (c, n))
        → outcome r table text ≡ settled (older-asked more) (older (counted c table text) n.0) table text
    unfolding counted added
    older-settled more e = ap (λ (m : Made). outcome m table text) e ∙ go (older-asked more) refl
      where
        go : (a : Asked) → older-asked more ≡ a → outcome (answered a (Ok (c, n))) table text ≡ settled a (older (counted c table text) n.0) table text
        go (Ok u) g =
            let h = allowed c (counts_of (c.nodes + more) (c.bytes + 0)) (length table) (length text) present amount true (omega arith) (omega arith) g in
            let t = over-front (c.nodes * 4) table (omega (arith, h.counted-nodes)) in
            let b = over-front c.bytes text h.counted-bytes in
            λ i. outcome (Ok (c, n)) (t i) (b i)
        go (Err why) d = refl

    -- with nothing to add
    pub given_back : {r : Made} → r ≡ answered (older-asked 0) (Ok (c, n)) → outcome r table text ≡ made c table text present amount true (λ s. older s n.0)
    unfolding counted
    given_back e =
        older-settled 0 e
        ∙ settle c table text present amount true (λ s. older s n.0) (c.nodes + 0) (c.bytes + 0) (λ m u p. (sym (add-zero c.nodes), sym (add-zero c.bytes)))

  -- one by itself
  module _ (k a b d : ℕ) where
    pub node_alone : {r : Outcome}
        → r ≡ settled (asked c (length table) (length text) present amount true (c.nodes + 1) (c.bytes + 0)) (add (counted c table text) k a b d) table text
        → r ≡ made c table text present amount true (λ s. add s k a b d)
    unfolding counted
    node_alone e =
        e
        ∙ settle c table text present amount true (λ s. add s k a b d) (c.nodes + 1) (c.bytes + 0) (λ n u p. (refl, sym (add-zero c.bytes)))

-- one node, the first of so many that are asked for
module _ (c : Counts) (table text : List ℕ) (asks : Asks) (words : Words) where
  abbrev node-asked : Asked
  node-asked = asked_for c (length table) (length text) asks

  abbrev new : Built
  new = add (counted c table text) words.kind words.a words.b words.c

  module _ (some : 0 < asks.nodes) (granted : Ok tt ≡ node-asked) where
    abbrev then-counts : Counts
    then-counts = counts_of (c.nodes + asks.nodes) (c.bytes + asks.bytes)

    node_allowed : Allowed c then-counts (length table) (length text) asks.present asks.amount asks.text
    node_allowed =
        allowed c then-counts (length table) (length text) asks.present asks.amount asks.text (omega arith) (omega arith) (sym granted)

    pub node-room : (c.nodes < 1024) × (c.nodes * 4 + 3 < length table)
    node-room =
        let h = node_allowed.room.nodes in
        let l = h.limited (omega arith) in
        let i = h.inside (omega arith) in
        (omega arith, omega arith)

    pub node_granted : {m : Made} {table' : List ℕ} → m ≡ Ok (counts_of (c.nodes + 1) c.bytes, record { 0 = c.nodes })
        → table' ≡ over (take (c.nodes * 4) table ++ (words.kind ∷ words.a ∷ words.b ∷ words.c ∷ [])) table
        → outcome m table' text ≡ settled node-asked new table text
    unfolding counted added
    node_granted e t =
        let u = over-front c.bytes text node_allowed.counted-bytes in
        rw (← granted) (λ i. outcome (e i) (t i) (u i))

-- ---- by the case that the code takes

-- p is the test of operands as the code has it, q as the definition has it
module _ (c : Counts) (table text : List ℕ) {p q : Bool} (is : p ≡ q) where
  abbrev Makes : Bool → Outcome → (Draft → Built) → Type 0
  Makes present r f = r ≡ made c table text present true true f

  pub by-operands : (f : Draft → Built) {r : Outcome} → Makes p r f → Makes q r f
  by-operands f e = e ∙ ap (λ (b : Bool). made c table text b true true f) is

  by_case : (f g : Draft → Built) → f (counted c table text) ≡ g (counted c table text) → {r : Outcome} → Makes p r g → Makes q r f
  by_case f g same e = by-operands f (e ∙ sym (made-same c table text p true true f g same))

  -- l and m are the code's tests of a and b
  module _ (a b : ℕ) {l : Bool} (left : l ≡ is_nil (counted c table text) a) where
    pub append_gives-right : l ≡ true → {r : Outcome} → Makes p r (λ s. older s b) → Makes q r (λ s. append s a b)
    append_gives-right t e = by_case (λ s. append s a b) (λ s. older s b) (append_left (counted c table text) a b (sym left ∙ t)) e

    module _ (some : l ≡ false) {m : Bool} (right : m ≡ is_nil (counted c table text) b) where
      pub append_gives-left : m ≡ true → {r : Outcome} → Makes p r (λ s. older s a) → Makes q r (λ s. append s a b)
      append_gives-left t e =
          by_case (λ s. append s a b) (λ s. older s a) (append_right (counted c table text) a b (sym left ∙ some) (sym right ∙ t)) e

      pub append_joins : m ≡ false → {r : Outcome} → Makes p r (λ s. add s 1 a b 0) → Makes q r (λ s. append s a b)
      append_joins t e =
          by_case (λ s. append s a b) (λ s. add s 1 a b 0) (append_both (counted c table text) a b (sym left ∙ some) (sym right ∙ t)) e

  -- t is the code's test of n
  module _ (n : ℕ) {t : Bool} (tested : t ≡ stays (counted c table text) n) where
    pub group_gives-back : t ≡ true → {r : Outcome} → Makes p r (λ s. older s n) → Makes q r (λ s. group s n)
    group_gives-back y e = by_case (λ s. group s n) (λ s. older s n) (group-stays (counted c table text) n (sym tested ∙ y)) e

    pub group_groups : t ≡ false → {r : Outcome} → Makes p r (λ s. add s 2 n 0 0) → Makes q r (λ s. group s n)
    group_groups y e = by_case (λ s. group s n) (λ s. add s 2 n 0 0) (group-wraps (counted c table text) n (sym tested ∙ y)) e
