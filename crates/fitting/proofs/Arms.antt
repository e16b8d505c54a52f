-- An arm of a visit of the fit test, by the node's kind.
-- Assumes nothing.
use mathlib.Core.Path.{◌≡◌}
use Prim.Native.Nat.{ℕ, ◌+◌, ◌*◌, ◌≤◌, ◌<◌}
use mathlib.Core.Logic.{⊎_elim}
use mathlib.Core.List.{List, [], ◌∷◌, ◌++◌}
use types.Run.{OneOf}
use lib.ListN.{get_or}
use borrow.Author.Tests.{le-leb, lt-leb}
use Rattle.table.specs.Node.{fail, node_at}
use Rattle.machine.specs.Fit.{Item, walk, item, look, by_mode}
use Rattle.waiting.specs.Stack.{mode_of, items_of, FitPushed}
use Rattle.waiting.proofs.Laws.{flat_mode, same_refl}
use Rattle.fitting.specs.Fitting.{Stepped}
use Rattle.fitting.specs.declared.Step.TheVariants.{Down, Done, Fits, Wide}
use Rattle.table.proofs.Nodes.{node-is}

module _ {table : List ℕ} {W n m k c : ℕ} {w : List ℕ} where
  pub look-nil : get_or table (n * 4) 0 ≡ 0 → Stepped table W n m k c w (Done (record { 0 = c })) w
  look-nil e = record { same = same_refl 1024 _; said = λ is left. rw (node-is table n 0 e) }

  pub look-append : {w' : List ℕ} → get_or table (n * 4) 0 ≡ 1 → FitPushed w k (get_or table (n * 4 + 2) 0) w'
      → Stepped table W n m k c w (Down (record { 0 = get_or table (n * 4 + 1) 0 }) (k + 1)) w'
  look-append e p = record { same = p.same; said = λ is left. rw (node-is table n 1 e, p.items m) }

  -- a visit that goes on to the child x
  pub look-through : (x : ℕ) → ((is : List Item) (left : ℕ) → walk (item x (mode_of m) ∷ is) c ≡ look W (node_at table n) (mode_of m) is c left) → Stepped table W n m k c w (Down (record { 0 = x }) k) w
  look-through x h = record { same = same_refl 1024 _; said = λ is left. h (items_of m k w ++ is) left }

  pub look-flat_alt : (x : ℕ) → get_or table (n * 4) 0 ≡ 3 → x ≡ by_mode (mode_of m) (get_or table (n * 4 + 1) 0) (get_or table (n * 4 + 2) 0) → Stepped table W n m k c w (Down (record { 0 = x }) k) w
  look-flat_alt x e ex = look-through x (λ is left. rw (node-is table n 3 e, ex))

  pub look-hardline : get_or table (n * 4) 0 ≡ 5 → m ≡ 0 → Stepped table W n m k c w Fits w
  look-hardline e z = record { same = same_refl 1024 _; said = λ is left. rw (node-is table n 5 e, z) }

  pub look-hardline-flat : get_or table (n * 4) 0 ≡ 5 → (m ≡ 0 → ⊥) → Stepped table W n m k c w Wide w
  look-hardline-flat e z = record { same = same_refl 1024 _; said = λ is left. rw (node-is table n 5 e, flat_mode m z) }

  pub look-text : get_or table (n * 4) 0 ≡ 6 → c + get_or table (n * 4 + 3) 0 ≤ W → Stepped table W n m k c w (Done (record { 0 = c + get_or table (n * 4 + 3) 0 })) w
  look-text e h = record { same = same_refl 1024 _; said = λ is left. rw (node-is table n 6 e, le-leb _ _ h) }

  pub look-text-past : get_or table (n * 4) 0 ≡ 6 → W < c + get_or table (n * 4 + 3) 0 → Stepped table W n m k c w Wide w
  look-text-past e h = record { same = same_refl 1024 _; said = λ is left. rw (node-is table n 6 e, lt-leb _ _ h) }

  pub look-fail : node_at table n ≡ fail → Stepped table W n m k c w Wide w
  look-fail e = record { same = same_refl 1024 _; said = λ is left. rw e }

  -- Group, Nest, Annotated and Align are walked through to their child
  pub look_one : OneOf (2 ∷ 4 ∷ 7 ∷ 9 ∷ []) (get_or table (n * 4) 0) → Stepped table W n m k c w (Down (record { 0 = get_or table (n * 4 + 1) 0 }) k) w
  look_one h =
      let child = get_or table (n * 4 + 1) 0 in
      ⊎_elim (λ e. look-through child (λ is left. rw (node-is table n 2 e)))
      (⊎_elim (λ e. look-through child (λ is left. rw (node-is table n 4 e)))
      (⊎_elim (λ e. look-through child (λ is left. rw (node-is table n 7 e)))
      (λ e. look-through child (λ is left. rw (node-is table n 9 e)))))
      h
