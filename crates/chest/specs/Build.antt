-- What the functions that build a sheet promise, over what table and text hold before and after; `Is` and `Shares` are words/specs/Build's.
use Rattle.std.specs.Prelude.{ℕ, ◌≤◌, ◌≡◌, List, length, Result, Ok, Err}
use Rattle.table.specs.declared.NodeNo.{NodeNo}
use Rattle.build.specs.declared.Counts.{Counts}
use Rattle.build.specs.Promise.{ValidSoFar}
use Rattle.buffer.specs.Parts.{lines}
use Rattle.words.specs.declared.Shared.{Shared}
use Rattle.words.specs.Build.{Is, Shares}
use Rattle.chest.specs.declared.NoRoom.{NoRoom}
use Rattle.chest.specs.declared.NoRoom.TheVariants.{Line, Footer}
use Rattle.chest.specs.Documents.{lines_doc, sheet_doc}

-- what has no room: a line of the input
abbrev pub AtLine : List ℕ → NoRoom → Type 0
AtLine input (Line line why) = line ≤ length (lines input)
AtLine input (Footer line why) = ⊥

-- a line of the input, or the footer behind the last
abbrev pub Named : List ℕ → NoRoom → Type 0
Named input (Line line why) = line ≤ length (lines input)
Named input (Footer line why) = line ≡ length (lines input)

-- all lines and how many they are, over a valid table with its shared nodes
pub record Lined (input : List ℕ) (shared : Shared) (c : Counts) (n : NodeNo) (line : ℕ) (table text : List ℕ) : Type 0 where
  pub valid : ValidSoFar c table text
  pub shares : Shares c table text shared
  pub is : Is c table text n (lines_doc input)
  pub count : line ≡ length (lines input)

-- that; or one of them that doesn't fit
abbrev pub Joined : List ℕ → Shared → Result (Counts × NodeNo × ℕ) NoRoom → List ℕ → List ℕ → Type 0
Joined input shared (Ok (c, n, line)) table text = Lined input shared c n line table text
Joined input shared (Err e) table text = AtLine input e

-- the counted part of a sheet validates, and its node unfolds to the input's document; else a line of the input, or the last, is named
abbrev pub Shows : List ℕ → Result (Counts × NodeNo) NoRoom → List ℕ → List ℕ → Type 0
Shows input (Ok (c, n)) table text = ValidSoFar c table text × Is c table text n (sheet_doc input)
Shows input (Err e) table text = Named input e
