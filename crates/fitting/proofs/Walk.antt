-- What the fit test's two walks keep, and how each step keeps it.
-- Assumes nothing.
use mathlib.Core.Path.{◌≡◌, refl, sym, ap, ◌∙◌, subst}
use Prim.Native.Nat.{ℕ, suc, zero, ◌+◌, ◌-◌, ◌*◌, ◌≤◌, ◌<◌}
use mathlib.Core.List.{List, [], ◌∷◌, ◌++◌, append-nil}
use native.Mathlib.Omega.{arith}
use lib.ListN.{get_or, length}
use Rattle.table.specs.Node.{node_at}
use Rattle.table.specs.Sound.{Sound}
use Rattle.rules.specs.Layout.{flat, broken}
use Rattle.machine.specs.Waiting.{Entry, node}
use Rattle.machine.specs.Fit.{Item, item, Verdict, fits, wide, due, Walked, walk, say, look, fit, reread}
use Rattle.machine.specs.Well.{Nodes, FitStacked}
use Rattle.machine.proofs.Kept.{FitNext, walked_next}
use Rattle.waiting.specs.Area.{area_words, fit_from, number_at, indent_at, mode_at}
use Rattle.std.specs.Prelude.{Option, Some, None, Result}
use Rattle.waiting.specs.declared.Tag.TheVariants.{Node}
use Rattle.waiting.specs.Stack.{mode_of, stack_of, items_of, Same, from, Nearest}
use Rattle.waiting.proofs.Laws.{same_refl, same_trans, same_less, stack_same, length-items, node_up, from-reread, from-nodes}
use Rattle.fitting.specs.Fitting.{Stepped, stepped, Fitting, Fitted, verdict_of}
use Rattle.fitting.specs.declared.Step.{Step}
use Rattle.fitting.specs.declared.Step.TheVariants.{Down, Done, Fits, Wide}
use Rattle.fitting.specs.declared.fit.Fit.{Fit}
use Rattle.table.specs.declared.NodeNo.{NodeNo}
use Rattle.table.specs.declared.Column.{Column}

-- with nothing left to walk the fit test says yes
fit-nil : (T : List ℕ) (W left c : ℕ) → fit T W left [] c ≡ fits left
unfolding fit
fit-nil T W zero c = refl
fit-nil T W (suc left) c = refl

-- the node n that is due in a fit test, and k more of its mode
abbrev pub ahead : List ℕ → ℕ → ℕ → ℕ → List Item
ahead w n m k = item n (mode_of m) ∷ items_of m k w

module _ (T : List ℕ) (W x d c left : ℕ) where
  -- what the whole fit test says, over the work area w
  abbrev whole : List ℕ → Verdict
  whole w = fit T W left (item x flat ∷ reread (stack_of d w)) c

  -- w₀, w: the work area where the loop began and now; the nodes `is` are to be walked, then those of the first a entries; a column; steps left
  pub record Walking (w₀ w : List ℕ) (is : List Item) (a col s : ℕ) : Type 0 where
    pub start : Fitting T w₀ W x d c
    pub at : a ≤ d
    pub same : Same 1024 w₀ w
    pub long : length w ≡ length w₀
    pub nodes : Nodes start.N (stack_of a w)
    pub stack : FitStacked start.N is
    pub column : col ≤ 65536
    pub said : fit T W s (is ++ reread (stack_of a w)) col ≡ whole w

fit_length : (N : ℕ) (is : List Item) → FitStacked N is → length is ≤ N
fit_length N [] h = omega arith
fit_length N (item n m ∷ is) h = omega (arith, h.0)

none_left : (w : List ℕ) (m : ℕ) (k : ℕ) → k ≡ 0 → items_of m k w ≡ []
none_left w m k e = rw e

-- the fit test at work: its start is implicit in `Walking`
module _ {T : List ℕ} {W x d c left : ℕ} where
  pub walk_start : (w : List ℕ) → Fitting T w W x d c → Walking T W x d c left w w (ahead w x 1 0) d c left
  walk_start w f =
      record {
        start = f;
        at = omega arith;
        same = same_refl 1024 w;
        long = refl;
        nodes = f.nodes;
        stack = (omega (arith, f.child), tt);
        column = f.column;
        said = refl;
      }

  -- ---- a node is due
  module _ {w₀ w : List ℕ} {n : ℕ} (m : ℕ) (k : ℕ) {a col S : ℕ} (h : Walking T W x d c left w₀ w (ahead w n m k) a col S) where
    node_in : n < h.start.N
    node_in = omega (arith, h.stack.0)

    node-sound : Sound 65536 n (node_at T n)
    node-sound = h.start.valid n node_in

    pub count_small : k ≤ 1023
    count_small = omega (arith, fit_length h.start.N (ahead w n m k) h.stack, length-items m k w, h.start.small)

    pub area-kept : {size : ℕ} → size ≡ length w → area_words ≤ size
    area-kept e = omega (arith, h.start.area, h.long)

    -- what the visit asks for
    pub visit_asks : (n * 4 + 4 ≤ length T) × (Sound 65536 n (node_at T n) × ((area_words ≤ length w) × (k ≤ 1024) × (col ≤ 65536)))
    visit_asks = (omega (arith, node_in, h.start.words), (node-sound, (area-kept refl, omega (arith, count_small), h.column)))

    -- what a search among the first a entries, or an entry below it, asks for
    pub height-small : a ≤ 1024
    height-small = omega (arith, h.at, h.start.deep)

    pub walk-due : S ≡ 0 → due n ≡ whole T W x d c left w
    unfolding fit
    walk-due e = rw e at h.said

    -- where a step is left
    module _ (some : S ≡ 0 → ⊥) where
      left' : S ≡ suc (S - 1)
      left' = omega arith

      -- what the fit test says is what it says after the visit
      after : (v : Walked) → v ≡ look W (node_at T n) (mode_of m) (items_of m k w ++ reread (stack_of a w)) col (S - 1) → elim v [ walk is c' ↦ fit T W (S - 1) is c' | say v' ↦ v' ] ≡ whole T W x d c left w
      unfolding fit
      after v e = rw e (rw left' at h.said)

      -- the visit keeps the height
      next : FitNext h.start.N (look W (node_at T n) (mode_of m) (items_of m k w) col (S - 1))
      next = walked_next h.start.N W 65536 n (node_at T n) (mode_of m) (items_of m k w) col (S - 1) h.start.width h.column node-sound h.stack

      module _ {w' : List ℕ} {r : Step} (p : Stepped T W n m k col w r w') (e : length w' ≡ length w) where
        kept-stack : (j : ℕ) → j ≤ d → stack_of j w' ≡ stack_of j w
        kept-stack j le = stack_same j w w' (same_less j 1024 w w' (omega (arith, h.start.deep)) p.same)

        -- on to the nodes is' at column c'
        walk-on : (is' : List Item) (c' : ℕ) → stepped r m k col w' [] (S - 1) ≡ walk (is' ++ []) c' → stepped r m k col w' (reread (stack_of a w)) (S - 1) ≡ walk (is' ++ reread (stack_of a w)) c' → Walking T W x d c left w₀ w' is' a c' (S - 1)
        walk-on is' c' alone all =
            let f : FitNext h.start.N (walk is' c') =
            subst (λ (l : List Item). FitNext h.start.N (walk l c')) (append-nil is') (subst (λ (v : Walked). FitNext h.start.N v) (sym (p.said [] (S - 1)) ∙ alone) (rw append-nil next)) in
            record {
              start = h.start;
              at = h.at;
              same = same_trans 1024 w₀ w w' h.same p.same;
              long = e ∙ h.long;
              nodes = rw (kept-stack a h.at) h.nodes;
              stack = f.0;
              column = f.1;
              said = rw (kept-stack d (omega arith), kept-stack a h.at) (after (walk (is' ++ reread (stack_of a w)) c') (sym all ∙ p.said (reread (stack_of a w)) (S - 1)));
            }

        pub walk_down : (n' : NodeNo) (k' : ℕ) → r ≡ Down n' k' → Walking T W x d c left w₀ w' (ahead w' n'.0 m k') a col (S - 1)
        walk_down n' k' er = walk-on (ahead w' n'.0 m k') col (rw er) (rw er)

        pub walk-done : (c' : Column) → r ≡ Done c' → Walking T W x d c left w₀ w' (items_of m k w') a c'.0 (S - 1)
        walk-done c' er = walk-on (items_of m k w') c'.0 (rw er) (rw er)

        pub walk_same : Same 1024 w₀ w'
        walk_same = same_trans 1024 w₀ w w' h.same p.same

        pub walk_yes : r ≡ Fits → fits (S - 1) ≡ whole T W x d c left w'
        walk_yes er = rw (kept-stack d (omega arith)) (after (say (fits (S - 1))) (sym (ap (λ (v : Step). stepped v m k col w' (reread (stack_of a w)) (S - 1)) er) ∙ p.said (reread (stack_of a w)) (S - 1)))

        pub walk_no : r ≡ Wide → wide (S - 1) ≡ whole T W x d c left w'
        walk_no er = rw (kept-stack d (omega arith)) (after (say (wide (S - 1))) (sym (ap (λ (v : Step). stepped v m k col w' (reread (stack_of a w)) (S - 1)) er) ∙ p.said (reread (stack_of a w)) (S - 1)))

  -- ---- a node is done

  -- the next of its mode
  pub walk_pop : {w₀ w : List ℕ} (m : ℕ) (k : ℕ) {a col s : ℕ} → (k ≡ 0 → ⊥) → Walking T W x d c left w₀ w (items_of m k w) a col s → Walking T W x d c left w₀ w (ahead w (get_or w (fit_from + (k - 1)) 0) m (k - 1)) a col s
  walk_pop {w₀} {w} m k {a} {col} {s} ne h =
      let e : k ≡ suc (k - 1) = omega arith in
      subst (λ (j : ℕ). Walking T W x d c left w₀ w (items_of m j w) a col s) e h

  -- nothing left
  pub walk_end : {w₀ w : List ℕ} (m : ℕ) (k : ℕ) {a col s : ℕ} {r : Option ℕ} → k ≡ 0 → Walking T W x d c left w₀ w (items_of m k w) a col s → Nearest w a Node r → r ≡ None → fits s ≡ whole T W x d c left w
  walk_end {w₀} {w} m k {a} {col} {s} {r} z h f e =
      let q : reread (stack_of a w) ≡ [] = sym (from-reread (stack_of a w)) ∙ ap reread f.found ∙ rw e in
      sym (fit-nil T W s col) ∙ (rw (none_left w m k z, q) at h.said)

  -- the next waiting node, read as broken
  pub walk-next : {w₀ w : List ℕ} (m : ℕ) (k : ℕ) {a col s : ℕ} {r : Option ℕ} (i : ℕ) → k ≡ 0 → Walking T W x d c left w₀ w (items_of m k w) a col s → Nearest w a Node r → r ≡ Some i → Walking T W x d c left w₀ w (ahead w (number_at w i) 0 k) i col s
  walk-next {w₀} {w} m k {a} {col} {s} {r} i z h f e =
      let below : i < a = rw e at f.within in
      let top : from 0 (stack_of a w) ≡ node (number_at w i) (indent_at w i) (mode_of (mode_at w i)) ∷ stack_of i w =
      f.found ∙ rw e (node_up w i (f.tagged i e)) in
      let q : reread (stack_of a w) ≡ item (number_at w i) broken ∷ reread (stack_of i w) = sym (from-reread (stack_of a w)) ∙ ap reread top in
      let g : Nodes h.start.N (node (number_at w i) (indent_at w i) (mode_of (mode_at w i)) ∷ stack_of i w) =
      subst (λ (l : List Entry). Nodes h.start.N l) top (from-nodes h.start.N (stack_of a w) h.nodes) in
      record {
        start = h.start;
        at = omega (arith, below, h.at);
        same = h.same;
        long = h.long;
        nodes = g.1;
        stack = rw (none_left w 0 k z) (omega (arith, g.0), tt);
        column = h.column;
        said = rw (none_left w 0 k z) (rw (none_left w m k z, q) at h.said);
      }

  -- the answer, over the work area as it is now
  pub walk_fitted : {w w' : List ℕ} {r : Result Fit NodeNo} → d ≤ 1024 → Same 1024 w w' → verdict_of r ≡ whole T W x d c left w' → Fitted T W x d c left w r w'
  walk_fitted {w} {w'} le p e = record { same = p; said = e ∙ rw (stack_same d w w' (same_less d 1024 w w' le p)) }
