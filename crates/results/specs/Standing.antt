-- How the lines of an input stand to the tolerance: how many rows there are, and the notes of those out of it.
use Rattle.std.specs.Prelude.{ℕ, suc, ◌+◌, ◌≤◌, ◌≡◌, List, [], ◌∷◌, length, take, drop, eqb, Option, Some, None, Result, Ok, Err}
use Rattle.choice.specs.Pick.{pick}
use Rattle.buffer.specs.Parts.{index_of, body_end, lines, between}
use Rattle.results.specs.Pallets.{parsed}
use Rattle.results.specs.Tolerance.{label_of}
use Rattle.results.specs.declared.Fault.{Fault}
use Rattle.results.specs.declared.Line.{Line}
use Rattle.results.specs.declared.Line.TheVariants.{Empty, Heading, Row}
use Rattle.results.specs.declared.tolerance.Standing.{Standing}
use Rattle.results.specs.declared.tolerance.Standing.TheVariants.{NoRow, Within, Out}
use Rattle.results.specs.declared.tolerance.Out as declared

-- a row is out of tolerance if it has a mark
unfoldable pub standing : Result Line Fault → Standing
standing (Ok Empty) = NoRow
standing (Ok Heading) = NoRow
standing (Err fault) = NoRow
standing (Ok (Row p)) = pick (eqb (label_of p.grams p.tenths) 0) Within Out

-- of a line with its carriage return, if it has one
unfoldable pub standing_of : List ℕ → Standing
standing_of l = standing (parsed (take (body_end l) l))

-- one more, if the line is a row
abbrev pub counted : Standing → ℕ → ℕ
counted NoRow n = n
counted Within n = suc n
counted Out n = suc n

unfoldable pub row_count : List (List ℕ) → ℕ
row_count [] = 0
row_count (l ∷ ls) = counted (standing_of l) (row_count ls)

-- one more note, if its row is out of tolerance
abbrev pub named : Standing → List ℕ → List (List ℕ) → List (List ℕ)
named NoRow note notes = notes
named Within note notes = notes
named Out note notes = note ∷ notes

-- the notes of the rows out of tolerance, in order; a note stands before the first `;`
unfoldable pub out_notes : List (List ℕ) → List (List ℕ)
out_notes [] = []
out_notes (l ∷ ls) = named (standing_of l) (take (index_of 59 l) l) (out_notes ls)

-- this row, or the next after it
abbrev pub found_at : Standing → Option declared.Out → Option declared.Out → Option declared.Out
found_at NoRow this after = after
found_at Within this after = after
found_at Out this after = this

-- the next row out of tolerance, of lines that start at a place: where it starts, where its note ends and where its line ends
unfoldable pub next_out : ℕ → List (List ℕ) → Option declared.Out
next_out at [] = None
next_out at (l ∷ ls) = found_at (standing_of l) (Some (record { start = at; note = at + index_of 59 l; end = at + length l })) (next_out (at + length l + 1) ls)

-- the row found lies from a place on; its note is the first of those named from there on, and what follows its line names the others
pub record First (s : List ℕ) (at start end feed : ℕ) : Type 0 where
  pub ahead : at ≤ start
  pub note : start ≤ end
  pub line : end ≤ feed
  pub inside : feed ≤ length s
  pub names : out_notes (lines (drop at s)) ≡ between s start end ∷ out_notes (lines (drop (feed + 1) s))

-- what was found, as to the notes named
abbrev pub Names : Option declared.Out → List ℕ → ℕ → Type 0
Names None s at = out_notes (lines (drop at s)) ≡ []
Names (Some out) s at = First s at out.start out.note out.end
