-- A run of parts on a table of their own: all of them, or a refusal for want of nodes, whatever is then left of that table.
use Rattle.std.specs.Prelude.{ℕ, ◌/◌, ◌≤◌, ◌<◌, ◌≡◌, true, false, List, length}
use Rattle.build.specs.declared.Counts.{Counts}
use Rattle.build.specs.declared.Why.TheVariants.{Nodes}
use Rattle.build.specs.Outcome.{Made}
use Rattle.std.specs.Prelude.{Err}
use Rattle.build.specs.Draft.{Draft, Built, counted}
use Rattle.build.specs.Outcome.{fits, outcome, added}
use Rattle.block.specs.declared.Shared.{Shared}

-- counts lie in table and text
pub record Ready (c : Counts) (table text : List ℕ) : Type 0 where
  pub nodes : c.nodes ≤ length table / 4
  pub bytes : c.bytes ≤ length text

-- the shared nodes are there
pub record Shares (c : Counts) (sh : Shared) : Type 0 where
  pub none : sh.none.0 < c.nodes
  pub guard : sh.guard.0 < c.nodes

-- what was built stands over the table if there is room for it; else the refusal
pub record Ran (c : Counts) (table text : List ℕ) (b : Built) (r : Made) (table' : List ℕ) : Type 0 where
  pub whole : fits c.nodes b.draft.counts.nodes 1024 (length table / 4) ≡ true → outcome r table' text ≡ added b table text
  pub short : fits c.nodes b.draft.counts.nodes 1024 (length table / 4) ≡ false → r ≡ Err Nodes

-- the same of what a part adds to what is counted
abbrev pub Runs : Counts → List ℕ → List ℕ → (Draft → Built) → Made → List ℕ → Type 0
Runs c table text part r table' = Ran c table text (part (counted c table text)) r table'
