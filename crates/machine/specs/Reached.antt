-- The states that a run comes through, and what a fit test has still to walk: what the bounds of document 01 speak of.
use Rattle.std.specs.Prelude.{◌≡◌, ℕ, ◌≤◌, ◌<◌, Bool, false, List, [], ◌∷◌}
use Rattle.table.specs.Node.{node_at}
use Rattle.rules.specs.Layout.{Page, blank, Mode, broken}
use Rattle.machine.specs.Waiting.{Entry, node, trial, closing}
use Rattle.machine.specs.Fit.{Item, item, walk, look}
use Rattle.machine.specs.Turn.{Env, on, stop, turn}

-- from the root, turn after turn: the page, the steps left, whether a Text ended past width, and the entry that is due with what waits
module _ (E : Env) (root : ℕ) where
  pub data Reached : Page → ℕ → Bool → List Entry → Type 0 where
    start : Reached blank E.limits.limit false (node root 0 broken ∷ [])
    turned : {p p' : Page} {left left' : ℕ} {past past' : Bool} {e : Entry} {w w' : List Entry} → Reached p left past (e ∷ w) → turn E p left past e w ≡ on p' left' past' w' → Reached p' left' past' w'

  -- a state from which the turn stops; with 7 it had a step left, so that the node due is a fit test's
  pub record Stops (a n left : ℕ) : Type 0 where
    pub page : Page
    pub before : ℕ
    pub past : Bool
    pub entry : Entry
    pub below : List Entry
    pub reached : Reached page before past (entry ∷ below)
    pub turns : turn E page before past entry below ≡ stop a n left
    pub more : a ≡ 7 → 0 < before

-- A fit test's own stack, from one of the first N nodes that it takes up, the group's child or a waiting node: the node it looks at, and those
-- that it has still to walk; and the column.
module _ (table : List ℕ) (width N : ℕ) where
  pub data Walks : List Item → ℕ → Type 0 where
    takes : {n c : ℕ} {m : Mode} → n < N → c ≤ 65536 → Walks (item n m ∷ []) c
    looks : {n c c' : ℕ} {m : Mode} {is is' : List Item} (left : ℕ) → Walks (item n m ∷ is) c → look width (node_at table n) m is c left ≡ walk is' c' → Walks is' c'

-- no indentation passes b
abbrev pub Indents : ℕ → List Entry → Type 0
Indents b [] = Unit {0}
Indents b (node n i m ∷ w) = (i ≤ b) × Indents b w
Indents b (trial n i m s ∷ w) = (i ≤ b) × Indents b w
Indents b (closing n l ∷ w) = Indents b w
