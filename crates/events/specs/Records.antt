-- Event records: the record of no event, the records that words hold, and all the records of a slice.
-- Assumes nothing.
use Rattle.std.specs.Prelude.{ℕ, zero, suc, ◌+◌, ◌*◌, ◌/◌, ◌&&◌, List, [], ◌∷◌, ◌++◌, ltb, length, get_or}
use Rattle.choice.specs.Pick.{pick}
use Rattle.rules.specs.Call.{event_words}
use Rattle.events.specs.declared.Event.{Event}

-- the bytes of a record: each field is a word
abbrev pub record_bytes : ℕ
record_bytes = event_words * 4

-- the words of the 4,096 records that a call may lend at most
abbrev pub most : ℕ
most = 4096 * event_words

-- every field zero
abbrev pub none : Event
none = record { offset = 0; mark = 0; label = 0 }

-- record k of the words
unfoldable pub event_at : List ℕ → ℕ → Event
event_at w k =
    record { offset = get_or w (k * event_words) 0; mark = get_or w (k * event_words + 1) 0; label = get_or w (k * event_words + 2) 0 }

-- record k, of the first n that the words hold
unfoldable pub record_at : List ℕ → ℕ → ℕ → Event
record_at w n k = pick (ltb k n && ltb k (length w / event_words)) (event_at w k) none

-- m records, each by its number
unfoldable pub records : {A : Type 0} → (ℕ → A) → ℕ → List A
records f zero = []
records f (suc m) = records f m ++ (f m ∷ [])

-- all m records of a slice
abbrev pub published : List ℕ → ℕ → ℕ → List Event
published w n m = records (record_at w n) m
