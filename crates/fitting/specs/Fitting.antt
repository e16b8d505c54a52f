-- What the fit test's functions promise, over the step function's `look` and `fit`.
use Rattle.std.specs.Prelude.{◌≡◌, ℕ, zero, suc, ◌+◌, ◌-◌, ◌*◌, ◌≤◌, ◌<◌, Option, Some, None, Result, Ok, Err, List, ◌∷◌, ◌++◌, length, get_or}
use Rattle.table.specs.Node.{node_at}
use Rattle.table.specs.Sound.{AllSound}
use Rattle.rules.specs.Layout.{Mode, flat}
use Rattle.machine.specs.Fit as machine
use Rattle.machine.specs.Fit.{Item, item, Verdict, Walked, walk, say, reread}
use Rattle.machine.specs.Well.{Nodes}
use Rattle.table.specs.declared.NodeNo.{NodeNo}
use Rattle.waiting.specs.Stack.{mode_of, stack_of, items_of, Same}
use Rattle.fitting.specs.declared.Step.{Step}
use Rattle.fitting.specs.declared.Step.TheVariants.{Down, Done, Fits, Wide}
use Rattle.fitting.specs.declared.fit.Fit.{Fit}

-- Where a visit of the code leads: from column c with k nodes left to walk in mode m, over the work area w; `is` is what is to be walked
-- after those, and `left` the steps left.
abbrev pub stepped : Step → ℕ → ℕ → ℕ → List ℕ → List Item → ℕ → Walked
stepped (Down n k') m k c w is left = walk (item n.0 (mode_of m) ∷ (items_of m k' w ++ is)) c
stepped (Done c') m k c w is left = walk (items_of m k w ++ is) c'.0
stepped Fits m k c w is left = say (machine.fits left)
stepped Wide m k c w is left = say (machine.wide left)

-- every entry is as it was, and the visit leads where `look` leads
pub record Stepped (table : List ℕ) (width n m k c : ℕ) (w : List ℕ) (r : Step) (w' : List ℕ) : Type 0 where
  pub same : Same 1024 w w'
  pub said : (is : List Item) (left : ℕ) → stepped r m k c w' is left ≡ machine.look width (node_at table n) (mode_of m) (items_of m k w ++ is) c left

-- the code's answer as the step function's
abbrev pub verdict_by : ℕ → ℕ → Verdict
verdict_by zero left = machine.wide left
verdict_by (suc m) left = machine.fits left

abbrev pub verdict_of : Result Fit NodeNo → Verdict
verdict_of (Ok f) = verdict_by f.mode.0 f.left
verdict_of (Err n) = machine.due n.0

-- what the fit test starts from: a valid table of N nodes, the group's child one of them, d entries waiting, and a column
pub record Fitting (table w : List ℕ) (W x d c : ℕ) : Type 0 where
  pub N : ℕ
  pub valid : AllSound table 65536 N
  pub words : N * 4 ≤ length table
  pub small : N ≤ 1024
  pub child : x < N
  pub nodes : Nodes N (stack_of d w)
  pub deep : d ≤ 1024
  pub area : 16384 ≤ length w
  pub width : W ≤ 65536
  pub column : c ≤ 65536

-- every entry is as it was, and the answer is the step function's
pub record Fitted (table : List ℕ) (W x d c left : ℕ) (w : List ℕ) (r : Result Fit NodeNo) (w' : List ℕ) : Type 0 where
  pub same : Same 1024 w w'
  pub said : verdict_of r ≡ machine.fit table W left (item x flat ∷ reread (stack_of d w)) c

-- n is a node of a valid table
pub record Known (table : List ℕ) (n : ℕ) : Type 0 where
  pub N : ℕ
  pub size : ℕ
  pub valid : AllSound table size N
  pub words : N * 4 ≤ length table
  pub node : n < N

-- so many steps on, as many numbers below n, the fit test says what it says from n
pub record Below (table : List ℕ) (n left down : ℕ) : Type 0 where
  pub nodes : down ≤ n
  pub steps : down ≤ left
  pub said : (W c : ℕ) (m : Mode) (is : List Item) → machine.fit table W (left - down) (item (n - down) m ∷ is) c ≡ machine.fit table W left (item n m ∷ is) c

-- r is the child of node n, where n is of this kind and its child stands next to it
pub record NextInRow (table : List ℕ) (kind n : ℕ) (r : Option NodeNo) : Type 0 where
  pub of_kind : (x : NodeNo) → r ≡ Some x → get_or table (n * 4) 0 ≡ kind
  pub beside : (x : NodeNo) → r ≡ Some x → get_or table (n * 4 + 1) 0 + 1 ≡ n
  pub child : (x : NodeNo) → r ≡ Some x → x.0 ≡ n - 1
  pub none : r ≡ None → get_or table (n * 4) 0 ≡ kind → get_or table (n * 4 + 1) 0 + 1 ≡ n → ⊥
