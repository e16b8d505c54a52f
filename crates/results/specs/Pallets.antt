-- What a line says, `note;force;pluck point;remark`, and which line of an input is at fault first.
use Rattle.std.specs.Prelude.{ℕ, ◌+◌, ◌<◌, List, [], ◌∷◌, length, get_or, take, drop, eqb, leb, ltb, Option, Some, None, Result, Ok, Err}
use Rattle.choice.specs.Pick.{pick}
use Rattle.buffer.specs.Utf8.{well_formed}
use Rattle.buffer.specs.Parts.{between, index_of, body_end, characters, blank, controls}
use Rattle.results.specs.Numbers.{number_of, tenths_of}
use Rattle.results.specs.declared.Fault.{Fault}
use Rattle.results.specs.declared.Fault.TheVariants.{TooLong, NotUtf8, Control, NoForce, NoPluck, NoRemark, Note, Force, Pluck}
use Rattle.results.specs.declared.Cuts.{Cuts}
use Rattle.results.specs.declared.Line.{Line}
use Rattle.results.specs.declared.Line.TheVariants.{Empty, Heading, Row}
use Rattle.results.specs.declared.input.FaultAt.{FaultAt}

-- the first `;` from a place on
abbrev pub separator : List ℕ → ℕ → ℕ
separator s from = from + index_of 59 (drop from s)

-- three separators, or the first field that has none before it
unfoldable pub cuts_at : List ℕ → ℕ → ℕ → ℕ → Result Cuts Fault
cuts_at s first second third =
    pick (leb (length s) first) (Err NoForce)
    (pick (leb (length s) second) (Err NoPluck)
    (pick (leb (length s) third) (Err NoRemark)
    (Ok (record { first = first; second = second; third = third }))))

-- each separator is looked for behind the one before
unfoldable pub fields_of : List ℕ → Result Cuts Fault
fields_of s = cuts_at s (separator s 0) (separator s (separator s 0 + 1)) (separator s (separator s (separator s 0 + 1) + 1))

-- separators stand in order, within the line
abbrev pub Ordered : Result Cuts Fault → ℕ → Type 0
Ordered (Err fault) n = Unit {0}
Ordered (Ok cuts) n = (cuts.first < cuts.second) × (cuts.second < cuts.third) × (cuts.third < n)

-- force and pluck point, the force looked at first
unfoldable pub measured : ℕ → ℕ → ℕ → Option ℕ → Option ℕ → Result Line Fault
measured first second third None pluck = Err Force
measured first second third (Some grams) None = Err Pluck
measured first second third (Some grams) (Some point) =
    Ok (Row (record { force = first + 1; pluck = second + 1; remark = third + 1; grams = grams; tenths = point }))

-- a note of at most five columns that is not blank, then force and pluck point
unfoldable pub pallet_of : List ℕ → ℕ → ℕ → ℕ → Result Line Fault
pallet_of s first second third =
    pick (blank (take first s)) (Err Note)
    (pick (leb (characters (take first s)) 5)
    (measured first second third (number_of (between s (first + 1) second)) (tenths_of (between s (second + 1) third)))
    (Err Note))

unfoldable pub pallet_at : List ℕ → Result Cuts Fault → Result Line Fault
pallet_at s (Err fault) = Err fault
pallet_at s (Ok cuts) = pallet_of s cuts.first cuts.second cuts.third

-- nothing, a heading, or a pallet
unfoldable pub said : List ℕ → Result Line Fault
said s = pick (eqb (length s) 0) (Ok Empty) (pick (eqb (get_or s 0 0) 35) (Ok Heading) (pallet_at s (fields_of s)))

-- at most 200 bytes of UTF-8 without control characters
unfoldable pub parsed : List ℕ → Result Line Fault
parsed s =
    pick (ltb 200 (length s)) (Err TooLong)
    (pick (well_formed s) (pick (controls s) (Err Control) (said s)) (Err NotUtf8))

unfoldable pub verdict_of : Result Line Fault → Result (Unit {0}) Fault
verdict_of (Ok line) = Ok tt
verdict_of (Err fault) = Err fault

-- of a line without the carriage return at its end
abbrev pub verdict_at : List ℕ → Result (Unit {0}) Fault
verdict_at l = verdict_of (parsed (take (body_end l) l))

-- the fault of line n, or the verdict on the lines after it
abbrev pub first_of : ℕ → Result (Unit {0}) Fault → Result (Unit {0}) FaultAt → Result (Unit {0}) FaultAt
first_of n (Ok u) rest = rest
first_of n (Err fault) rest = Err (record { line = n; fault = fault })

-- the first line at fault, so many lines having gone before
unfoldable pub checked : ℕ → List (List ℕ) → Result (Unit {0}) FaultAt
checked n [] = Ok tt
checked n (l ∷ ls) = first_of (n + 1) (verdict_at l) (checked (n + 1) ls)
