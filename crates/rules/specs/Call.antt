-- One whole call: sizes, validation, the run and its report, and what every lent buffer holds afterwards.
-- Assumes nothing.
use Rattle.std.specs.Prelude.{ℕ, ◌-◌, ◌*◌, Bool, ◌&&◌, List, [], ◌∷◌, ◌++◌, length, replicate, leb, eqb}
use Rattle.choice.specs.Pick.{pick}
use Rattle.table.specs.Fault.{Fault, check}
use Rattle.table.specs.Unfold.{tree, root}
use Rattle.rules.specs.Layout.{Limits, Event, Report, layout}

-- what a call is given. Of the buffers only their sizes matter: bytes of output, event records, words of work.
pub record Given : Type 0 where
  pub table : List ℕ
  pub text : List ℕ
  pub width : ℕ
  pub limit : ℕ
  pub room : ℕ
  pub slots : ℕ
  pub work : ℕ

-- ---- the answer

-- the sizes that answer 1 is about, besides those of table and text
abbrev pub buffers_right : Given → Bool
buffers_right g = leb g.room 65536 && leb g.slots 4096 && leb 16384 g.work && leb g.width 65535 && leb g.limit 100000000

abbrev pub limits : Given → Limits
limits g = record { width = g.width; limit = g.limit; room = g.room; slots = g.slots }

-- answers 1 to 5: used bytes and events are 0, and so are the steps
abbrev pub refusal : ℕ → ℕ → Report
refusal answer place = record { answer = answer; place = place; steps = 0; bytes = []; events = [] }

-- a table that has no fault is run
abbrev pub unless_fault : Fault → Report → Report
unless_fault f r = pick (eqb f.answer 0) r (refusal f.answer f.place)

-- 1 comes first, then the faults of the table, then the run
unfoldable pub call : Given → Report
call g =
    pick (buffers_right g) (unless_fault (check g.table g.text) (layout (limits g) (tree g.table g.text (root g.table)))) (refusal 1 0)

-- ---- the buffers afterwards

-- the words of an event record: offset, mark, label
abbrev pub event_words : ℕ
event_words = 3

unfoldable pub words_of : List Event → List ℕ
words_of [] = []
words_of (e ∷ es) = e.offset ∷ e.mark ∷ e.label ∷ words_of es

-- everything past the used part is zero
abbrev pub padded : List ℕ → ℕ → List ℕ
padded used size = used ++ replicate (size - length used) 0

-- the output, the events as words and the work area, each over its whole lent length; used bytes and events are 0 on a refusal
pub record Buffers : Type 0 where
  pub output : List ℕ
  pub events : List ℕ
  pub work : List ℕ

unfoldable pub buffers : Given → Report → Buffers
buffers g r =
    record { output = padded r.bytes g.room; events = padded (words_of r.events) (g.slots * event_words); work = replicate g.work 0 }
