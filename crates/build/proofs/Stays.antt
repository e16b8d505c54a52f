-- Which nodes Group gives back, by the words of a node as the code reads them. Assumes nothing.
use Prim.Native.Nat.{ℕ, ◌+◌, ◌-◌, ◌*◌, ◌≤◌, ◌<◌}
use native.Mathlib.Omega.{arith}
use mathlib.Core.Path.{◌≡◌, sym, ap, ◌∙◌}
use mathlib.Core.Bool.{Bool, true, false}
use mathlib.Core.List.{List}
use lib.ListN.{length, take, drop, length-take}
use lib.Seq.{take-take}
use borrow.Author.Tests.{eq-eqb, ne_eqb, le-leb, lt-leb}
use Rattle.table.specs.Node.{word}
use Rattle.table.proofs.Unfolded.{part_same}
use Rattle.buffer.specs.Utf8.{ascii}
use Rattle.build.specs.declared.Counts.{Counts}
use Rattle.build.specs.Draft.{counted}
use Rattle.build.specs.Parts.{stays}

-- the kind of node n
module _ (c : Counts) (table text : List ℕ) (n : ℕ) {k : ℕ} (kind : k ≡ word (take (c.nodes * 4) table) n 0) where
  abbrev Stays : Bool → Type 0
  Stays q = q ≡ stays (counted c table text) n

  pub stays-nil : k ≡ 0 → Stays true
  unfolding stays counted
  stays-nil z = simp (eq-eqb _ _ (sym kind ∙ z))

  module _ (no-nil : k ≡ 0 → ⊥) where
    pub stays-group : k ≡ 2 → Stays true
    unfolding stays counted
    stays-group z = simp (ne_eqb _ _ (λ e. no-nil (kind ∙ e)), eq-eqb _ _ (sym kind ∙ z))

    module _ (no-group : k ≡ 2 → ⊥) where
      pub stays-other : (k ≡ 6 → ⊥) → Stays false
      unfolding stays counted
      stays-other z =
          simp (ne_eqb _ _ (λ e. no-nil (kind ∙ e)), ne_eqb _ _ (λ e. no-group (kind ∙ e)), ne_eqb _ _ (λ e. z (kind ∙ e)))

      -- a Text, and its range
      module _ (is-text : k ≡ 6) {from size : ℕ} (offset : from ≡ word (take (c.nodes * 4) table) n 1) (count : size ≡ word (take (c.nodes * 4) table) n 2) where
        abbrev o : ℕ
        o = word (take (c.nodes * 4) table) n 1

        abbrev l : ℕ
        l = word (take (c.nodes * 4) table) n 2

        abbrev used : List ℕ
        used = take c.bytes text

        outside : length used < o + l → Stays false
        unfolding stays counted
        outside out =
            simp (
              ne_eqb _ _ (λ e. no-nil (kind ∙ e)),
              ne_eqb _ _ (λ e. no-group (kind ∙ e)),
              eq-eqb _ _ (sym kind ∙ is-text),
              lt-leb (o + l) (length used) out,
            )

        pub stays_unused : c.bytes < from + size → Stays false
        stays_unused out = outside (simp length-take (omega arith))

        pub stays-past : length text < from + size → Stays false
        stays-past out = outside (simp length-take (omega arith))

        pub stays_plain : from + size ≤ c.bytes → from + size ≤ length text → {r : Bool} → r ≡ ascii (take (from + size - from) (drop from text)) → Stays r
        unfolding stays counted
        stays_plain within inside read =
            let there : o + l ≤ length used = simp length-take (omega arith) in
            let same : take l (drop o used) ≡ take l (drop o text) =
            part_same c.bytes o l used text (take-take c.bytes c.bytes text (omega arith)) (omega arith) in
            let long : from + size - from ≡ l = omega arith in
            let range : take (from + size - from) (drop from text) ≡ take l (drop o used) = rw (long, offset) (sym same) in
            simp (
              ne_eqb _ _ (λ e. no-nil (kind ∙ e)),
              ne_eqb _ _ (λ e. no-group (kind ∙ e)),
              eq-eqb _ _ (sym kind ∙ is-text),
              le-leb (o + l) (length used) there,
            )
            (read ∙ ap ascii range)
