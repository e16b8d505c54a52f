-- Text, a node and its bytes: what is asked, what is answered and what is left come to the definition.
--     text-counts, text-present     one node, its bytes, and a node that is there
--     text_denied, text-node-room, text_byte-room     refused; room for the node and for its bytes
--     text-empty, text-full         a Nil, or the bytes behind those that stand
--     blanks-made                   a Text of so many blanks
-- Assumes nothing.
use Prim.Native.Nat.{ℕ, ◌+◌, ◌*◌, ◌≤◌, ◌<◌}
use native.Mathlib.Omega.{arith}
use mathlib.Core.Path.{◌≡◌, refl, sym, ap, ◌∙◌}
use mathlib.Core.Bool.{Bool, true, false}
use mathlib.Core.List.{List, [], ◌∷◌, ◌++◌}
use lib.ListN.{length, take, drop, replicate, length-append, length-take}
use lib.Seq.{take-length}
use lib.Dec.{eqb}
use borrow.Author.Tests.{eqb-true, eq-eqb, ne_eqb}
use Rattle.choice.specs.Pick.{pick}
use Rattle.table.specs.Fault.{columns_right}
use Rattle.buffer.specs.Run.{put}
use Rattle.build.specs.declared.Counts.{Counts}
use Rattle.build.specs.declared.Why.{Why}
use Rattle.std.specs.Prelude.{Ok, Err}
use Rattle.build.specs.Draft.{Draft, Built, counts_of, counted, over, add, write}
use Rattle.build.specs.Parts.{nil, text}
use Rattle.build.specs.Outcome.{Made, Asked, Outcome, asked, outcome, added, made}
use Rattle.build.specs.Constructors.{text_made}
use Rattle.buffer.proofs.Put.{take-replicate}
use Rattle.build.proofs.Choices.{text-none, text-some}
use Rattle.build.proofs.Room.{Allowed, allowed}
use Rattle.build.proofs.Stand.{over-front, made_granted, made_denied}

pub text-counts : (s : Draft) (bytes : List ℕ) (columns : ℕ) → (text s bytes columns).draft.counts ≡ counts_of (s.counts.nodes + 1) (s.counts.bytes + length bytes)
unfolding text
text-counts s bytes columns = go (eqb (length bytes) 0) refl
  where
    go : (q : Bool) → eqb (length bytes) 0 ≡ q
        → (pick q (nil s) (add (write s bytes) 6 s.counts.bytes (length bytes) columns)).draft.counts ≡ counts_of (s.counts.nodes + 1) (s.counts.bytes + length bytes)
    go true e = let z = eqb-true (length bytes) 0 e in ap (counts_of (s.counts.nodes + 1)) (omega arith)
    go false e = refl

pub text-present : (s : Draft) (bytes : List ℕ) (columns : ℕ) → (text s bytes columns).node < (text s bytes columns).draft.counts.nodes
unfolding text
text-present s bytes columns = go (eqb (length bytes) 0)
  where
    go : (q : Bool)
        → (pick q (nil s) (add (write s bytes) 6 s.counts.bytes (length bytes) columns)).node < (pick q (nil s) (add (write s bytes) 6 s.counts.bytes (length bytes) columns)).draft.counts.nodes
    go true = omega arith
    go false = omega arith

-- right is the test of the columns as the code has it
module _ (c : Counts) (table letters bytes : List ℕ) (columns : ℕ) {right : Bool} (tested : right ≡ columns_right bytes columns) where
  abbrev s₀ : Draft
  s₀ = counted c table letters

  abbrev after : Counts
  after = counts_of (c.nodes + 1) (c.bytes + length bytes)

  -- with the test as the definition has it
  by_test : {r : Outcome} → r ≡ made c table letters true true right (λ s. text s bytes columns) → r ≡ text_made c table letters bytes columns
  by_test e = e ∙ ap (λ (q : Bool). made c table letters true true q (λ s. text s bytes columns)) tested

  counts_are : (text s₀ bytes columns).draft.counts ≡ after
  unfolding counted
  counts_are = text-counts s₀ bytes columns

  abbrev text-asked : Asked
  text-asked = asked c (length table) (length letters) true true right (c.nodes + 1) (c.bytes + length bytes)

  pub text_denied : {why : Why} → Err why ≡ text-asked → outcome (Err why) table letters ≡ text_made c table letters bytes columns
  text_denied d =
      let nodes = ap (λ (x : Counts). x.nodes) counts_are in
      let used = ap (λ (x : Counts). x.bytes) counts_are in
      by_test (made_denied c table letters true true right (λ s. text s bytes columns) _ _ _ nodes used (sym d))

  module _ (granted : Ok tt ≡ text-asked) where
    facts : Allowed c after (length table) (length letters) true true right
    facts = allowed c after (length table) (length letters) true true right (omega arith) (omega arith) (sym granted)

    pub text-node-room : (c.nodes < 1024) × (c.nodes * 4 + 3 < length table)
    text-node-room =
        let h = facts.room.nodes in
        let l = h.limited (omega arith) in
        let i = h.inside (omega arith) in
        (omega arith, omega arith)

    pub text_byte-room : (length bytes ≡ 0 → ⊥) → (c.bytes + length bytes ≤ 65536) × (c.bytes + length bytes ≤ length letters)
    text_byte-room some =
        let h = facts.room.used in
        let n : c.bytes < c.bytes + length bytes = let l : 0 < length bytes = omega (arith, some) in omega arith in
        (h.limited n, h.inside n)

    text-is : {r : Outcome} (b : Built) → text s₀ bytes columns ≡ b → r ≡ added b table letters → r ≡ text_made c table letters bytes columns
    text-is b e o =
        let n = sym (ap (λ (x : Built). x.draft.counts) e) ∙ counts_are in
        by_test (o ∙ sym (made_granted c table letters true true right (λ s. text s bytes columns) b e (rw n (sym granted))))

    pub text-empty : length bytes ≡ 0
        → {m : Made} {table' : List ℕ} → m ≡ Ok (counts_of (c.nodes + 1) c.bytes, record { 0 = c.nodes })
        → table' ≡ over (take (c.nodes * 4) table ++ (0 ∷ 0 ∷ 0 ∷ 0 ∷ [])) table
        → outcome m table' letters ≡ text_made c table letters bytes columns
    unfolding counted added
    text-empty z e t =
        let u = over-front c.bytes letters facts.counted-bytes in
        text-is (nil s₀) (text-none s₀ bytes columns (eq-eqb (length bytes) 0 z)) (λ i. outcome (e i) (t i) (u i))

    -- the bytes are put behind those that stand
    pub text-full : (length bytes ≡ 0 → ⊥)
        → {m : Made} {table' letters' : List ℕ} → m ≡ Ok (after, record { 0 = c.nodes })
        → table' ≡ over (take (c.nodes * 4) table ++ (6 ∷ c.bytes ∷ length bytes ∷ columns ∷ [])) table
        → letters' ≡ put letters c.bytes (take (length bytes) bytes)
        → outcome m table' letters' ≡ text_made c table letters bytes columns
    unfolding counted added put
    text-full some e t l =
        let size : length (take c.bytes letters ++ bytes) ≡ c.bytes + length bytes =
        simp (length-append, length-take) (let b = facts.counted-bytes in omega arith) in
        let whole = ap (λ (x : List ℕ). take c.bytes letters ++ x ++ drop (c.bytes + length x) letters) (take-length bytes) in
        let u = l ∙ whole ∙ ap (λ (n : ℕ). take c.bytes letters ++ bytes ++ drop n letters) (sym size) in
        text-is (add (write s₀ bytes) 6 c.bytes (length bytes) columns) (text-some s₀ bytes columns (ne_eqb (length bytes) 0 some))
        (λ i. outcome (e i) (t i) (u i))

-- ---- so many of a thousand blanks

module _ (by : ℕ) (few : by ≤ 1000) where
  module _ (c : Counts) (table letters : List ℕ) where
    pub blanks-made : {columns : ℕ} → columns ≡ by → {r : Outcome} → r ≡ text_made c table letters (take by (replicate 1000 32)) columns
        → r ≡ text_made c table letters (replicate by 32) by
    blanks-made is e =
        e
        ∙ ap (text_made c table letters (take by (replicate 1000 32))) is
        ∙ ap (λ (l : List ℕ). text_made c table letters l by) (take-replicate by 1000 32 few)
