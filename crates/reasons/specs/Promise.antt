-- What the functions ask and promise: the summaries in the work area, and the rules' `reason` over what waits there.
-- Assumes nothing.
use Rattle.std.specs.Prelude.{◌≡◌, ℕ, ◌*◌, ◌≤◌, ◌<◌, List, length, drop}
use Rattle.table.specs.Unfold.{tree}
use Rattle.table.specs.Sound.{AllSound}
use Rattle.rules.specs.Why as why
use Rattle.rules.specs.Why.{first_after}
use Rattle.machine.specs.Waiting.{waiting}
use Rattle.machine.specs.Well.{Nodes}
use Rattle.waiting.specs.Area.{area_words}
use Rattle.waiting.specs.Stack.{stack_of, Same}
use Rattle.summary.specs.Promise.{Summed, reason_of}
use Rattle.summary.specs.declared.Reason.{Reason}

-- where the summaries start, past what waits and the fit test's nodes
abbrev pub memo_from : ℕ
memo_from = 12288

-- a valid table of N nodes, and a whole work area
pub record Lent (table work : List ℕ) (N : ℕ) : Type 0 where
  pub valid : AllSound table 65536 N
  pub words : N * 4 ≤ length table
  pub small : N ≤ 1024
  pub area : area_words ≤ length work

-- the summaries stand there, and what waits is as it was
pub record Filled (table work : List ℕ) (N : ℕ) (work' : List ℕ) : Type 0 where
  pub summed : Summed table (drop memo_from work') N
  pub same : Same 1024 work work'

-- the summaries, the nodes that wait in the first d entries, a column and a width
pub record Met (table work : List ℕ) (d c W N : ℕ) : Type 0 where
  pub lent : Lent table work N
  pub summed : Summed table (drop memo_from work) N
  pub depth : d ≤ 1024
  pub nodes : Nodes N (stack_of d work)
  pub column : c ≤ 65536
  pub width : W ≤ 65536

-- and a child
pub record Asked (table work : List ℕ) (d n c W N : ℕ) : Type 0 where
  pub met : Met table work d c W N
  pub child : n < N

-- the reason that the waiting nodes give, whatever the text bytes are
abbrev pub After : List ℕ → List ℕ → ℕ → ℕ → ℕ → Reason → Type 0
After table work depth c W r = (bytes : List ℕ) → reason_of r ≡ first_after W (waiting (tree table bytes) (stack_of depth work)) c

-- the reason of the rules
abbrev pub Because : List ℕ → List ℕ → ℕ → ℕ → ℕ → ℕ → Reason → Type 0
Because table work depth child c W r =
    (bytes : List ℕ) → reason_of r ≡ why.reason W (tree table bytes child) (waiting (tree table bytes) (stack_of depth work)) c
