-- Blanks, Append and hang, part by part: `indent`. Assumes nothing.
use Prim.Native.Nat.{ℕ, ◌+◌, ◌*◌, ◌≤◌, ◌<◌}
use native.Mathlib.Omega.{arith}
use mathlib.Core.Path.{◌≡◌, refl, sym, ap, ◌∙◌}
use mathlib.Core.Bool.{Bool, true, false, not, ◌||◌, ◌&&◌}
use mathlib.Core.List.{List, [], ◌∷◌}
use lib.ListN.{length, take, replicate, length-replicate}
use lib.Dec.{eqb, ltb, leb}
use borrow.Author.Tests.{lt-ltb, ltb-true, eq-eqb, eqb-true, le-leb, leb-true}
use Rattle.choice.specs.Pick.{pick}
use Rattle.table.specs.Node.{word}
use Rattle.buffer.proofs.Octets.{every-same}
use Rattle.buffer.specs.Utf8.{ascii, no_feed}
use Rattle.table.specs.Fault.{columns_right}
use Rattle.table.specs.declared.NodeNo.{NodeNo}
use Rattle.build.specs.declared.Counts.{Counts}
use Rattle.build.specs.declared.Why.{Why}
use Rattle.std.specs.Prelude.{Ok, Err}
use Rattle.build.specs.Draft.{Draft, Built, counts_of, counted, older, add, write}
use Rattle.build.specs.Parts.{is_nil, nil, text, append, hang, indent}
use Rattle.build.specs.Solid.{nest_adds, indent_adds}
use Rattle.build.specs.Outcome.{Made, Asked, asked, outcome, onward}
use Rattle.build.specs.Constructors.{has, nest_right, text_made, append_made, hang_made, indent_made}
use Rattle.build.proofs.Grow.{Whole, Grown, same, then, whole-grown, more-nodes, add-grown, write-grown, append-grown, text-grown, hang-grown}
use Rattle.build.proofs.Words.{old-word, new_word, append-present}
use Rattle.build.proofs.Choices.{append_left, append_right, append_both, text-none, text-some}
use Rattle.build.proofs.Texts.{text-present}
use Rattle.build.proofs.Hangs.{hang-counts}
use Rattle.build.proofs.Stand.{ComesTo, start, Went, gone, taken, refuse, Begun, begin, step, finish}

-- ---- blanks

pub blanks-right : (n : ℕ) → columns_right (replicate n 32) n ≡ true
unfolding columns_right ascii no_feed
blanks-right n =
    rw (every-same (λ b. not (eqb b 10)) 32 n refl, every-same (λ b. ltb b 128) 32 n refl, length-replicate {A = ℕ} n 32) (eq-eqb n n refl)

-- ---- how many nodes

adds_none : (table : List ℕ) (n by : ℕ) → eqb by 0 ≡ true → nest_adds table n by ≡ 0
unfolding nest_adds
adds_none table n by e = rw e (go (eqb (word table n 0) 0))
  where
    go : (q : Bool) → ◌≡◌ {A = ℕ} (pick (q || true) 0 1) 0
    go true = refl
    go false = refl

adds_one : (table : List ℕ) (n by : ℕ) → eqb (word table n 0) 0 ≡ false → eqb by 0 ≡ false → nest_adds table n by ≡ 1
unfolding nest_adds
adds_one table n by e f = rw (e, f) refl

-- what Append and hang give of the blanks and the node
rest : ℕ → ℕ → Built → Built
rest n by x = let j = append x.draft x.node n in hang j.draft j.node by 0

-- the blanks are a Nil
rest-none : (s : Draft) (a n by : ℕ) → is_nil s a ≡ true → eqb by 0 ≡ true → (rest n by (older s a)).draft.counts ≡ counts_of (s.counts.nodes + 1) s.counts.bytes
unfolding rest
rest-none s a n by e z =
    let h = hang-counts s n by 0 in
    let k : s.counts.nodes + (nest_adds s.table n by + 1) ≡ s.counts.nodes + 1 = omega (arith, adds_none s.table n by z) in
    rw (append_left s a n e) (h ∙ ap (λ (x : ℕ). counts_of x s.counts.bytes) k)

-- the blanks are a Text
rest_some : (s : Draft) (a n by : ℕ) → Whole s → is_nil s a ≡ false → eqb by 0 ≡ false
    → (rest n by (older s a)).draft.counts ≡ counts_of (s.counts.nodes + pick (is_nil s n) 2 3) s.counts.bytes
unfolding rest
rest_some s a n by w e z = go (is_nil s n) refl
  where
    go : (q : Bool) → is_nil s n ≡ q → (rest n by (older s a)).draft.counts ≡ counts_of (s.counts.nodes + pick q 2 3) s.counts.bytes
    go true q =
        let k : s.counts.nodes + (nest_adds s.table a by + 1) ≡ s.counts.nodes + 2 = omega (arith, adds_one s.table a by e z) in
        rw (append_right s a n e q) (hang-counts s a by 0 ∙ ap (λ (x : ℕ). counts_of x s.counts.bytes) k)
    go false q =
        let t = add s 1 a n 0 in
        let f = adds_one t.draft.table t.node by (rw (new_word w (1 ∷ a ∷ n ∷ 0 ∷ []) 0) refl) z in
        let k : s.counts.nodes + 1 + (nest_adds t.draft.table t.node by + 1) ≡ s.counts.nodes + 3 = omega arith in
        rw (append_both s a n e q) (hang-counts t.draft t.node by 0 ∙ ap (λ (x : ℕ). counts_of x s.counts.bytes) k)

indent-counts : (s : Draft) (n by : ℕ) → Whole s → n < s.counts.nodes
    → (indent s n by).draft.counts ≡ counts_of (s.counts.nodes + indent_adds s.table n by) (s.counts.bytes + by)
unfolding indent indent_adds rest
indent-counts s n by w h = go (eqb by 0) refl
  where
    blanks : List ℕ
    blanks = replicate by 32

    size : length blanks ≡ by
    size = length-replicate {A = ℕ} by 32

    more : (q : Bool) → s.counts.nodes + 1 + pick q 2 3 ≡ s.counts.nodes + pick q 3 4
    more true = omega arith
    more false = omega arith

    go : (q : Bool) → eqb by 0 ≡ q → (rest n by (text s blanks by)).draft.counts ≡ counts_of (s.counts.nodes + pick q 2 (pick (is_nil s n) 3 4)) (s.counts.bytes + by)
    go true q =
        let z = eqb-true by 0 q in
        let e = text-none s blanks by (ap (λ (k : ℕ). eqb k 0) size ∙ q) in
        let p : s.counts.nodes + 1 + 1 ≡ s.counts.nodes + 2 = omega arith in
        let r : s.counts.bytes ≡ s.counts.bytes + by = omega arith in
        ap (λ (x : Built). (rest n by x).draft.counts) e
        ∙ rest-none (nil s).draft (nil s).node n by (rw (new_word w (0 ∷ 0 ∷ 0 ∷ 0 ∷ []) 0) refl) q
        ∙ (λ i. counts_of (p i) (r i))
    go false q =
        let e = text-some s blanks by (ap (λ (k : ℕ). eqb k 0) size ∙ q) in
        let x = add (write s blanks) 6 s.counts.bytes (length blanks) by in
        let g = then (write-grown s blanks) (add-grown (write s blanks) 6 s.counts.bytes (length blanks) by) in
        let kind : is_nil x.draft x.node ≡ false = rw (new_word (whole-grown w (write-grown s blanks)) (6 ∷ s.counts.bytes ∷ length blanks ∷ by ∷ []) 0) refl in
        let old : is_nil x.draft n ≡ is_nil s n = ap (λ (k : ℕ). eqb k 0) (old-word w g n 0 h (omega arith)) in
        let p = ap (λ (b : Bool). s.counts.nodes + 1 + pick b 2 3) old ∙ more (is_nil s n) in
        let r = ap (λ (k : ℕ). s.counts.bytes + k) size in
        ap (λ (y : Built). (rest n by y).draft.counts) e ∙ rest_some x.draft x.node n by (whole-grown w g) kind q ∙ (λ i. counts_of (p i) (r i))

module _ (c : Counts) (table letters : List ℕ) (n by : ℕ) where
  abbrev s₀ : Draft
  s₀ = counted c table letters

  abbrev s₁ : Built
  s₁ = text s₀ (replicate by 32) by

  abbrev s₂ : Built
  s₂ = append s₁.draft s₁.node n

  abbrev indent-asked : Asked
  indent-asked = asked c (length table) (length letters) (has c n) (leb by 1000) true (c.nodes + indent_adds (take (c.nodes * 4) table) n by) (c.bytes + by)

  right-counts : ComesTo c table letters (has c n) (λ s. indent s n by) (c.nodes + indent_adds (take (c.nodes * 4) table) n by) (c.bytes + by)
  unfolding counted
  right-counts h b p =
      let e = indent-counts s₀ n by (start c table letters h b).whole (ltb-true n c.nodes p) in
      (ap (λ (x : Counts). x.nodes) e, ap (λ (x : Counts). x.bytes) e)

  pub indent-refused : {why : Why} → Err why ≡ indent-asked → outcome (Err why) table letters ≡ indent_made c table letters n by
  indent-refused d = refuse c table letters (has c n) (leb by 1000) true (λ s. indent s n by) _ _ right-counts _ (sym d)

  module _ (granted : Ok tt ≡ indent-asked) where
    grown₁ : Grown s₀ s₁.draft
    grown₁ = text-grown s₀ (replicate by 32) by

    grown₂ : Grown s₁.draft s₂.draft
    grown₂ = append-grown s₁.draft s₁.node n

    grown₃ : Grown s₂.draft (indent s₀ n by).draft
    unfolding indent
    grown₃ = hang-grown s₂.draft s₂.node by 0

    begun : Begun c table letters (has c n) (leb by 1000) true (λ s. indent s n by)
    begun = begin c table letters (has c n) (leb by 1000) true (λ s. indent s n by) _ _ right-counts (then grown₁ (then grown₂ grown₃)) (sym granted)

    pub indent_by : by ≤ 1000
    indent_by = leb-true by 1000 begun.facts.amounts

    old : n < c.nodes
    old = ltb-true n c.nodes begun.facts.operands

    indent_first : {m : Made} {table' letters' : List ℕ} → outcome m table' letters' ≡ text_made c table letters (replicate by 32) by
        → Went table letters s₁ m table' letters'
    indent_first o = step begun begun.stands (λ s. text s (replicate by 32) by) (same s₀) grown₁ (then grown₂ grown₃) refl refl (blanks-right by) o

    module _ {m : Made} {table₁ letters₁ : List ℕ} (went : Went table letters s₁ m table₁ letters₁) {c₁ : Counts} {n₁ : NodeNo} (e : m ≡ Ok (c₁, n₁)) where
      blank : s₁.node < s₁.draft.counts.nodes
      unfolding counted
      blank = text-present s₀ (replicate by 32) by

      there : n < s₁.draft.counts.nodes
      unfolding counted
      there = let l = more-nodes grown₁ in let o = old in omega arith

      indent_second : {m₂ : Made} {table₂ letters₂ : List ℕ} → outcome m₂ table₂ letters₂ ≡ append_made c₁ table₁ letters₁ n₁.0 n
          → Went table letters s₂ m₂ table₂ letters₂
      indent_second o =
          let t = taken went e in
          let o' = rw t.1 at o in
          let both : has c₁ s₁.node && has c₁ n ≡ true = rw t.0.counts (rw (lt-ltb _ _ blank, lt-ltb _ _ there) refl) in
          step begun t.0 (λ s. append s s₁.node n) grown₁ grown₂ grown₃ both refl refl o'

      indent_last : {m₂ : Made} {table₂ letters₂ : List ℕ} → Went table letters s₂ m₂ table₂ letters₂ → {c₂ : Counts} {n₂ : NodeNo} → m₂ ≡ Ok (c₂, n₂)
          → {m₃ : Made} {table₃ letters₃ : List ℕ} → outcome m₃ table₃ letters₃ ≡ hang_made c₂ table₂ letters₂ n₂.0 by 0
          → outcome m₃ table₃ letters₃ ≡ indent_made c table letters n by
      unfolding indent
      indent_last went₂ {c₂} e₂ o =
          let t = taken went₂ e₂ in
          let o' = rw t.1 at o in
          let present : has c₂ s₂.node ≡ true = rw t.0.counts (lt-ltb _ _ (append-present s₁.draft s₁.node n blank there)) in
          let right : nest_right by 0 ≡ true = rw (le-leb by 1000 indent_by) refl in
          finish begun (step begun t.0 (λ s. hang s s₂.node by 0) (then grown₁ grown₂) grown₃ (same (indent s₀ n by).draft) present right refl o')

    pub indent-made : (m₁ : Made) (table₁ letters₁ : List ℕ) → outcome m₁ table₁ letters₁ ≡ text_made c table letters (replicate by 32) by
        → (m₂ : Made) (table₂ letters₂ : List ℕ) → outcome m₂ table₂ letters₂ ≡ onward m₁ table₁ letters₁ (λ c₁ n₁. append_made c₁ table₁ letters₁ n₁ n)
        → {m₃ : Made} {table₃ letters₃ : List ℕ} → outcome m₃ table₃ letters₃ ≡ onward m₂ table₂ letters₂ (λ c₂ n₂. hang_made c₂ table₂ letters₂ n₂ by 0)
        → outcome m₃ table₃ letters₃ ≡ indent_made c table letters n by
    indent-made m₁ table₁ letters₁ o₁ m₂ table₂ letters₂ o₂ o₃ =
        let w₁ = indent_first o₁ in
        let w₂ = indent_second w₁ w₁.answer (o₂ ∙ gone w₁ (λ c₁ n₁. append_made c₁ table₁ letters₁ n₁ n)) in
        indent_last w₁ w₁.answer w₂ w₂.answer (o₃ ∙ gone w₂ (λ c₂ n₂. hang_made c₂ table₂ letters₂ n₂ by 0))
