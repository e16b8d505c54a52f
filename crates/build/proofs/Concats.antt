-- Lists of operands, joined, from what is asked to the loop's turns: any list, and `concat`.
--     join-made                              the whole, whatever list it joins
--     concat-made .. concat-end              the list as it stands
-- Assumes nothing.
use Prim.Native.Nat.{ℕ, suc, ◌+◌, ◌-◌, ◌*◌, ◌≤◌, ◌<◌}
use native.Mathlib.Omega.{arith}
use native.Mathlib.Numerals.{add-one}
use native.Mathlib.Nat.{add-zero}
use mathlib.Core.Path.{◌≡◌, refl, sym, ◌∙◌}
use mathlib.Core.Bool.{Bool, true}
use mathlib.Core.List.{List, [], ◌∷◌}
use lib.ListN.{length, get_or, take, drop, drop_of_length-le}
use lib.Seq.{drop-cons}
use Rattle.build.specs.declared.Counts.{Counts}
use Rattle.build.specs.declared.Why.{Why}
use Rattle.std.specs.Prelude.{Ok, Err}
use Rattle.build.specs.Draft.{Draft, Built, counted}
use Rattle.build.specs.Parts.{joined, concat}
use Rattle.build.specs.Solid.{solid}
use Rattle.build.specs.Outcome.{Made, asked, answered, outcome, onward, made}
use Rattle.build.specs.Constructors.{has_all, nil_made, append_made, concat_made}
use Rattle.build.proofs.Grow.{joined-grown}
use Rattle.build.proofs.Joins.{Below, below_of, joined-counts, Along, along-start, join_all, join-on, join-whole}
use Rattle.build.proofs.Stand.{ComesTo, start, refuse, Begun, begin}

-- ---- the whole, whatever list it joins

module _ (c : Counts) (table text : List ℕ) (present : Bool) (whole : Draft → Built) (first : ℕ) (rest : List ℕ)
    (is : joined (counted c table text) first rest ≡ whole (counted c table text)) (operands : present ≡ true → Below c.nodes (first ∷ rest)) where
  abbrev s₀ : Draft
  s₀ = counted c table text

  abbrev joins : ℕ
  joins = solid s₀.table (first ∷ rest) - 1

  right-counts : ComesTo c table text present whole (c.nodes + joins) (c.bytes + 0)
  unfolding counted
  right-counts n b p =
      let e = joined-counts s₀ first rest (start c table text n b).whole (operands p).0 (operands p).1 in
      rw (← is) (e.0, e.1 ∙ sym (add-zero c.bytes))

  join-refused : (why : Why) → asked c (length table) (length text) present true true (c.nodes + joins) (c.bytes + 0) ≡ Err why
      → outcome (Err why) table text ≡ made c table text present true true whole
  join-refused why d = refuse c table text present true true whole _ _ right-counts why d

  module _ (granted : asked c (length table) (length text) present true true (c.nodes + joins) (c.bytes + 0) ≡ Ok tt) where
    join_begun : Begun c table text present true true whole
    join_begun = begin c table text present true true whole _ _ right-counts (rw (← is) (joined-grown s₀ first rest)) granted

    join-start : Along c table text whole c first rest table text
    join-start = along-start join_begun first rest (operands join_begun.facts.operands).0 is

  -- the loop, from the first node
  pub join-made : {m : Made} → m ≡ answered (asked c (length table) (length text) present true true (c.nodes + joins) (c.bytes + 0)) (Ok (c, record { 0 = first }))
      → join_all m table text rest ≡ made c table text present true true whole
  join-made e =
      join-whole (asked c (length table) (length text) present true true (c.nodes + joins) (c.bytes + 0)) (record { 0 = first }) rest join-refused
      (λ g. (join_begun g, (operands (join_begun g).facts.operands).1, join-start g)) e

-- ---- the list as it stands

module _ (c : Counts) (table text : List ℕ) {ns : List ℕ} {first : ℕ} {rest : List ℕ} (is : ns ≡ first ∷ rest) where
  pub concat-made : {m : Made}
      → m ≡ answered (asked c (length table) (length text) (has_all c ns) true true (c.nodes + (solid (take (c.nodes * 4) table) ns - 1)) (c.bytes + 0)) (Ok (c, record { 0 = first }))
      → join_all m table text rest ≡ concat_made c table text ns
  unfolding counted concat
  concat-made e =
      rw is
      (join-made c table text (has_all c (first ∷ rest)) (λ s. concat s (first ∷ rest)) first rest refl (below_of c (first ∷ rest)) (rw is at e))

-- of none one Nil
pub concat-none : (c : Counts) (table text ns : List ℕ) → length ns ≡ 0 → nil_made c table text ≡ concat_made c table text ns
unfolding has_all concat
concat-none c table text [] e = refl
concat-none c table text (n ∷ ns) e = absurd (omega arith)

-- one turn of the loop
pub concat-turn : (m : Made) (table text : List ℕ) {r : Made} {table' : List ℕ} (ns : List ℕ) (i : ℕ) → i < length ns
    → outcome r table' text ≡ onward m table text (λ c n. append_made c table text n (get_or ns i 0))
    → join_all r table' text (drop (i + 1) ns) ≡ join_all m table text (drop i ns)
concat-turn m table text ns i h o = rw (drop-cons ns i 0 h) (rw add-one (join-on m table text (get_or ns i 0) (drop (suc i) ns) o))

-- nothing is left
pub concat-end : {m : Made} {table text : List ℕ} (ns : List ℕ) (i : ℕ) → length ns ≤ i → outcome m table text ≡ join_all m table text (drop i ns)
unfolding join_all
concat-end ns i h = rw (drop_of_length-le ns h) refl
