-- The nodes that all share: the constructors that make them, one after the other, and what stands once all are made.
use Rattle.std.specs.Prelude.{ℕ, List, Result, Ok, Err}
use Rattle.build.specs.declared.Counts.{Counts}
use Rattle.build.specs.Outcome.{Made, Outcome, onward}
use Rattle.build.specs.Constructors.{nil_made, hardline_made, line_made, group_made}
use Rattle.build.specs.Promise.{ValidSoFar}
use Rattle.build.specs.declared.Why.{Why}
use Rattle.words.specs.declared.Shared.{Shared}
use Rattle.words.specs.Build.{Shares}

-- the next constructor, over what one left; a refusal ends the chain
abbrev pub next : Outcome → (Counts → ℕ → List ℕ → List ℕ → Outcome) → Outcome
next o f = onward o.made o.table o.text (λ c n. f c n o.table o.text)

-- behind a line its softline
abbrev pub softline_of : Counts → ℕ → List ℕ → List ℕ → Outcome
softline_of c line table text = group_made c table text line

unfoldable pub breaking : Counts → List ℕ → List ℕ → Outcome
breaking c table text = next (line_made c table text) softline_of

-- behind a Hardline these two
abbrev pub breaks_of : Counts → ℕ → List ℕ → List ℕ → Outcome
breaks_of c _ table text = breaking c table text

-- behind a Nil the Hardline
abbrev pub feed_of : Counts → ℕ → List ℕ → List ℕ → Outcome
feed_of c _ table text = next (hardline_made c table text) breaks_of

-- over an empty table and text
unfoldable pub sharing : List ℕ → List ℕ → Outcome
sharing table text = next (nil_made (record { nodes = 0; bytes = 0 }) table text) feed_of

-- the counts and the shared nodes, or why there is no room for all of them
abbrev pub Start : Type 0
Start = Result (Counts × Shared) Why

-- the last node made, or the refusal
abbrev pub answer : Start → Made
answer (Ok (c, shared)) = Ok (c, shared.softline)
answer (Err why) = Err why

-- the shared nodes, over a valid table
abbrev pub Started : Start → List ℕ → List ℕ → Type 0
Started (Ok (c, shared)) table text = ValidSoFar c table text × Shares c table text shared
Started (Err why) table text = Unit {0}
