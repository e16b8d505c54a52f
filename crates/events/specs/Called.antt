-- What a call over event records promises: layout's promise, with its events as records.
-- Assumes nothing.
use Rattle.std.specs.Prelude.{ℕ, List, [], ◌∷◌, length}
use Rattle.rules.specs.Layout as rules
use Rattle.rules.specs.Call.{Given, call}
use Rattle.layout.specs.declared.Report.{Report}
use Rattle.layout.specs.Called.{Form, Returned}
use Rattle.events.specs.declared.Event.{Event}
use Rattle.events.specs.Records.{none}

-- table, text, width and limit, and how many bytes of output, event records and words of work are lent
abbrev pub asked : List ℕ → List ℕ → ℕ → ℕ → ℕ → ℕ → ℕ → Given
asked table text width limit room slots work =
    record { table = table; text = text; width = width; limit = limit; room = room; slots = slots; work = work }

-- the same with the three buffers themselves
abbrev pub lent : List ℕ → List ℕ → ℕ → ℕ → List ℕ → List Event → List ℕ → Given
lent table text width limit out events work = asked table text width limit (length out) (length events) (length work)

-- the record of an event of the rules
abbrev pub record_of : rules.Event → Event
record_of e = record { offset = e.offset; mark = e.mark; label = e.label }

unfoldable pub records_of : List rules.Event → List Event
records_of [] = []
records_of (e ∷ es) = record_of e ∷ records_of es

abbrev pub as_records : Form Event
as_records = record { extent = λ n. n; hold = records_of; blank = none }

abbrev pub Called : Given → Report → List ℕ → List Event → List ℕ → Type 0
Called g = Returned as_records (call g) g.room g.slots g.work

-- as the contract has it: what is lent, then what is handed back
abbrev pub called_with : List ℕ → List ℕ → ℕ → ℕ → List ℕ → List Event → List ℕ → Report → List ℕ → List Event → List ℕ → Type 0
called_with table text width limit out events work = Called (lent table text width limit out events work)
