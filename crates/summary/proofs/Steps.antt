-- One step of the way down, by the node's kind word: to a node below from which the walk leads where it led, or to its end.
-- Assumes nothing.
use Prim.Native.Nat.{ℕ, ◌+◌, ◌-◌, ◌≤◌, ◌<◌}
use native.Mathlib.Omega.{arith}
use mathlib.Core.Path.{◌≡◌, refl, sym, ap, subst, ◌∙◌}
use mathlib.Core.Logic.{⊎_elim}
use mathlib.Core.Bool.{Bool, true, false}
use mathlib.Core.List.{List, []}
use lib.ListN.{get_or}
use borrow.Author.Tests.{le-leb, lt-leb}
use Rattle.table.specs.Node.{Node, node_at}
use Rattle.table.specs.Unfold.{tree_of, tree}
use Rattle.table.specs.Sound.{Sound}
use Rattle.rules.specs.Layout.{mode_if}
use Rattle.rules.specs.Why.{Met, through, found, at_fail, hardline_inside, hardline_after, text_past, then_meets, first_in}
use Rattle.summary.specs.Summary.{summary, word_of}
use Rattle.summary.specs.Promise.{place_of, Reads, Asked, Leads, Goes}
use Rattle.table.specs.declared.Words.{Words}
use Rattle.summary.proofs.Laws.{Comes, summary_bound, summary-met, came-bare, came-fits, came-past}
use Rattle.summary.proofs.Arms.{OneChild, node_of_lem, node-none, append-below, flat_alt-below, union-below, one_below, unfolds}

module _ {T M : List ℕ} {n c W N : ℕ} (h : Asked T M n c W N) where
  pub sound : Sound 65536 n (node_at T n)
  sound = h.valid n h.node

  module _ {w : Words} (r : Reads T n w) where
    module _ (f : Bool) where
      leads_as : (nd : Node) → node_at T n ≡ nd → (v : Met) → ((bytes : List ℕ) → v ≡ first_in W (tree_of bytes (tree T bytes) n nd) (mode_if f) c) → Leads T n f c W v
      leads_as nd e v g bytes = g bytes ∙ ap (λ t. first_in W t (mode_if f) c) (sym (unfolds sound r nd e bytes))

      goes_as : (nd : Node) → node_at T n ≡ nd → (x end : ℕ) → x < n → end ≤ 65536
          → ((bytes : List ℕ) → first_in W (tree T bytes x) (mode_if f) end ≡ first_in W (tree_of bytes (tree T bytes) n nd) (mode_if f) c) → Goes T n f c W x end
      goes_as nd e x end less small g =
          record { below = less; column = small; same = λ bytes. g bytes ∙ ap (λ t. first_in W t (mode_if f) c) (sym (unfolds sound r nd e bytes)) }

      -- the walk stays at its column
      stays_as : (nd : Node) → node_at T n ≡ nd → (x : ℕ) → x < n
          → ((bytes : List ℕ) → first_in W (tree T bytes x) (mode_if f) c ≡ first_in W (tree_of bytes (tree T bytes) n nd) (mode_if f) c) → Goes T n f c W x c
      stays_as nd e x less g = goes_as nd e x c less h.column g

      pub step-nil : w.kind ≡ 0 → Leads T n f c W (through c)
      unfolding first_in
      step-nil e = leads_as Node.nil (node_of_lem sound r 0 e) _ (λ bytes. refl)

      pub step-fail : (w.kind ≡ 0 → ⊥) → (w.kind ≡ 1 → ⊥) → (OneChild w.kind → ⊥) → (w.kind ≡ 3 → ⊥) → (w.kind ≡ 5 → ⊥) → (w.kind ≡ 6 → ⊥) → (w.kind ≡ 8 → ⊥)
          → Leads T n f c W (found (at_fail n c))
      unfolding first_in
      step-fail h0 h1 one h3 h5 h6 h8 = leads_as Node.fail (node-none sound r h0 h1 one h3 h5 h6 h8) _ (λ bytes. refl)

      -- a Text that ends there, by whether it fits
      abbrev ended : ℕ → Bool → Met
      ended end fits = elim fits [ true ↦ through end | false ↦ found (text_past n end) ]

      pub step-text : w.kind ≡ 6 → c + w.c ≤ W → Leads T n f c W (through (c + w.c))
      unfolding first_in
      step-text e g = leads_as (Node.text w.a w.b w.c) (node_of_lem sound r 6 e) _ (λ bytes. ap (ended (c + w.c)) (sym (le-leb (c + w.c) W g)))

      pub step-text-past : w.kind ≡ 6 → W < c + w.c → Leads T n f c W (found (text_past n (c + w.c)))
      unfolding first_in
      step-text-past e g = leads_as (Node.text w.a w.b w.c) (node_of_lem sound r 6 e) _ (λ bytes. ap (ended (c + w.c)) (sym (lt-leb (c + w.c) W g)))

      -- Group, Nest, Annotated and Align are walked through
      pub step_one : OneChild w.kind → Goes T n f c W w.a c
      unfolding first_in
      step_one kind =
          let less = one_below sound r kind in
          ⊎_elim (λ e. stays_as (Node.group w.a) (node_of_lem sound r 2 e) _ less (λ bytes. refl))
          (⊎_elim (λ e. stays_as _ (node_of_lem sound r 4 e) _ less (λ bytes. refl))
          (⊎_elim (λ e. stays_as (Node.annotated w.a w.b) (node_of_lem sound r 7 e) _ less (λ bytes. refl))
          (λ e. stays_as (Node.align w.a) (node_of_lem sound r 9 e) _ less (λ bytes. refl))))
          kind

      -- Union takes its second arm
      pub step-union : w.kind ≡ 8 → Goes T n f c W w.b c
      unfolding first_in
      step-union e = stays_as (Node.union w.a w.b) (node_of_lem sound r 8 e) _ (union-below sound r e) (λ bytes. refl)

      -- ---- a join, by the summary m of its first part

      module _ (e : w.kind ≡ 1) (m : ℕ) (first : m ≡ get_or M (place_of w.a f) 0) where
        less : (w.a < n) × (w.b < n)
        less = append-below sound r e

        word-is : (bytes : List ℕ) → word_of (summary (tree T bytes w.a) (mode_if f)) ≡ m
        word-is bytes = sym (first ∙ h.summed w.a (omega (arith, h.node, less.0)) f bytes)

        pub asked_small : m ≤ 65538
        asked_small = rw (sym (word-is [])) (summary_bound (tree T [] w.a) (mode_if f))

        comes : (bytes : List ℕ) → Comes W (summary (tree T bytes w.a) (mode_if f)) c (first_in W (tree T bytes w.a) (mode_if f) c)
        comes bytes = summary-met W h.width (tree T bytes w.a) (mode_if f) c

        -- where the walk comes through the first part, the second follows
        goes_second : (end : ℕ) → end ≤ 65536 → ((bytes : List ℕ) → first_in W (tree T bytes w.a) (mode_if f) c ≡ through end) → Goes T n f c W w.b end
        unfolding first_in
        goes_second end small came =
            goes_as (Node.append w.a w.b) (node_of_lem sound r 1 e) _ end less.1 small
            (λ bytes. ap (λ v. then_meets v (λ c. first_in W (tree T bytes w.b) (mode_if f) c)) (sym (came bytes)))

        pub step-bare : m ≡ 0 → Goes T n f c W w.b c
        step-bare z = goes_second c h.column (λ bytes. came-bare W h.width (comes bytes) (word-is bytes ∙ z))

        pub step_fits : (m ≡ 0 → ⊥) → c + (m - 1) ≤ W → Goes T n f c W w.b (c + (m - 1))
        step_fits some g =
            goes_second (c + (m - 1)) (omega (arith, h.width))
            (λ bytes. subst (λ x. (x ≡ 0 → ⊥) → c + (x - 1) ≤ W → first_in W (tree T bytes w.a) (mode_if f) c ≡ through (c + (x - 1))) (word-is bytes)
            (came-fits W h.width (comes bytes)) some g)

        pub step_past : (m ≡ 0 → ⊥) → W < c + (m - 1) → Goes T n f c W w.a c
        unfolding first_in
        step_past some g =
            stays_as (Node.append w.a w.b) (node_of_lem sound r 1 e) _ less.0
            (λ bytes. sym (came-past W h.width _ (comes bytes) (λ z. some (sym (word-is bytes) ∙ z)) (rw (word-is bytes) g)))

    -- ---- by mode

    pub step-flat_alt-flat : w.kind ≡ 3 → Goes T n true c W w.b c
    unfolding first_in
    step-flat_alt-flat e = stays_as true (Node.flat_alt w.a w.b) (node_of_lem sound r 3 e) _ (flat_alt-below sound r e).1 (λ bytes. refl)

    pub step-flat_alt-broken : w.kind ≡ 3 → Goes T n false c W w.a c
    unfolding first_in
    step-flat_alt-broken e = stays_as false (Node.flat_alt w.a w.b) (node_of_lem sound r 3 e) _ (flat_alt-below sound r e).0 (λ bytes. refl)

    pub step-hardline-flat : w.kind ≡ 5 → Leads T n true c W (found (hardline_inside n c))
    unfolding first_in
    step-hardline-flat e = leads_as true Node.hardline (node_of_lem sound r 5 e) _ (λ bytes. refl)

    pub step-hardline-broken : w.kind ≡ 5 → Leads T n false c W (found (hardline_after n))
    unfolding first_in
    step-hardline-broken e = leads_as false Node.hardline (node_of_lem sound r 5 e) _ (λ bytes. refl)

-- ---- from step to step

-- what is asked from here leads where it led from the start
pub record Walking (T M : List ℕ) (f : Bool) (W N n₀ c₀ n c : ℕ) : Type 0 where
  pub asked : Asked T M n c W N
  pub same : (bytes : List ℕ) → first_in W (tree T bytes n) (mode_if f) c ≡ first_in W (tree T bytes n₀) (mode_if f) c₀
