-- What the functions promise: the summaries of all nodes in a lent run of words, and where the walk down one node leads.
-- Assumes nothing.
use Rattle.std.specs.Prelude.{◌≡◌, ℕ, ◌+◌, ◌-◌, ◌*◌, ◌≤◌, ◌<◌, Bool, true, false, List, length, get_or, eqb, leb, Result, Ok, Err}
use Rattle.choice.specs.Pick.{pick}
use Rattle.table.specs.Unfold.{tree}
use Rattle.table.specs.Node.{node_of, node_at}
use Rattle.table.specs.declared.Words.{Words}
use Rattle.table.specs.Sound.{Sound, AllSound}
use Rattle.rules.specs.Why as why
use Rattle.rules.specs.Layout.{mode_if}
use Rattle.rules.specs.Why.{first_in}
use Rattle.summary.specs.Summary.{summary, word_of}
use Rattle.summary.specs.declared.Step.{Step}
use Rattle.summary.specs.declared.Step.TheVariants.{Down, Through}
use Rattle.table.specs.declared.Column.{Column}
use Rattle.summary.specs.declared.Reason.{Reason}
use Rattle.summary.specs.declared.Reason.TheVariants.{AtFail, HardlineInside, TextPast, NothingLeft, HardlineAfter}

-- the words of node n
pub record Reads (table : List ℕ) (n : ℕ) (w : Words) : Type 0 where
  pub node : node_at table n ≡ node_of w.kind w.a w.b w.c

-- where node n's summary stands: broken first, then flat
abbrev pub place_of : ℕ → Bool → ℕ
place_of n false = n * 2
place_of n true = n * 2 + 1

-- two summaries, one after the other, in words
abbrev pub join_words : ℕ → ℕ → ℕ
join_words a b = pick (eqb a 0) b (pick (eqb b 0) a (pick (leb (a + b) 65538) (a + b - 1) 65538))

-- a valid table of N nodes, and room for their summaries
pub record Room (table memo : List ℕ) (N : ℕ) : Type 0 where
  pub valid : AllSound table 65536 N
  pub words : N * 4 ≤ length table
  pub small : N ≤ 1024
  pub room : N * 2 ≤ length memo

-- the word m is the summary of node n read flat or not, whatever the text bytes are
abbrev pub Says : List ℕ → ℕ → Bool → ℕ → Type 0
Says table n f m = (bytes : List ℕ) → m ≡ word_of (summary (tree table bytes n) (mode_if f))

-- the memo has the summaries of the nodes 0 to n - 1
abbrev pub Summed : List ℕ → List ℕ → ℕ → Type 0
Summed table memo n = (i : ℕ) → i < n → (f : Bool) → Says table i f (get_or memo (place_of i f) 0)

-- node n of a valid table, and the summaries of the nodes below it
pub record Below (table memo : List ℕ) (n : ℕ) : Type 0 where
  pub small : n < 1024
  pub words : n * 4 + 4 ≤ length table
  pub room : n * 2 ≤ length memo
  pub sound : Sound 65536 n (node_at table n)
  pub summed : Summed table memo n

-- so for all N nodes; words past their places are as they were
pub record Summarized (table memo : List ℕ) (N : ℕ) (memo' : List ℕ) : Type 0 where
  pub summed : Summed table memo' N
  pub size : length memo' ≡ length memo
  pub rest : (i : ℕ) → N * 2 ≤ i → get_or memo' i 0 ≡ get_or memo i 0

-- the code's answer as the definition's
abbrev pub reason_of : Reason → why.Reason
reason_of (AtFail n c) = why.at_fail n.0 c.0
reason_of (HardlineInside n c) = why.hardline_inside n.0 c.0
reason_of (TextPast n c) = why.text_past n.0 c.0
reason_of NothingLeft = why.nothing_left
reason_of (HardlineAfter n) = why.hardline_after n.0

abbrev pub met_of : Result Column Reason → why.Met
met_of (Ok c) = why.through c.0
met_of (Err r) = why.found (reason_of r)

-- one of N nodes with their summaries, a column and a width
pub record Asked (table memo : List ℕ) (n c W N : ℕ) : Type 0 where
  pub valid : AllSound table 65536 N
  pub words : N * 4 ≤ length table
  pub small : N ≤ 1024
  pub room : N * 2 ≤ length memo
  pub summed : Summed table memo N
  pub node : n < N
  pub column : c ≤ 65536
  pub width : W ≤ 65536

-- the walk down node n leads there, whatever the text bytes are
abbrev pub Leads : List ℕ → ℕ → Bool → ℕ → ℕ → why.Met → Type 0
Leads table n f c W v = (bytes : List ℕ) → v ≡ first_in W (tree table bytes n) (mode_if f) c

-- the walk down node x, below n, leads from its column where the walk down n leads from c
pub record Goes (table : List ℕ) (n : ℕ) (f : Bool) (c W x end : ℕ) : Type 0 where
  pub below : x < n
  pub column : end ≤ 65536
  pub same : (bytes : List ℕ) → first_in W (tree table bytes x) (mode_if f) end ≡ first_in W (tree table bytes n) (mode_if f) c

-- one step of the way down
abbrev pub Stepped : List ℕ → ℕ → Bool → ℕ → ℕ → Result Step Reason → Type 0
Stepped table n f c W (Ok (Down x end)) = Goes table n f c W x.0 end.0
Stepped table n f c W (Ok (Through end)) = Leads table n f c W (why.through end.0)
Stepped table n f c W (Err r) = Leads table n f c W (why.found (reason_of r))
