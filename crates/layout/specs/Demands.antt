-- What demands 1 and 3 ask of the public calls, in document 01's words, whatever form their events are lent in. A call is given a table, a text, a
-- width, a step limit and the lengths of three lent buffers: bytes of output, elements of events, words of work. It hands back a report and the buffers.
use Rattle.std.specs.Prelude.{◌≡◌, ℕ, ◌-◌, ◌/◌, ◌≤◌, ◌<◌, List, length, take, drop, replicate}
use Rattle.rules.specs.Call.{Given, event_words}
use Rattle.rules.specs.Law.{Differ, document}
use Rattle.table.specs.Valid.{Valid}
use Rattle.layout.specs.declared.Report.{Report}
use Rattle.layout.specs.Called.{Form}

-- ---- demand 1, whatever is given

pub record Demand1 {A : Type 0} (form : Form A) (limit room size work : ℕ) (r : Report) (out : List ℕ) (noted : List A) (area : List ℕ) : Type 0 where
  -- one of the answers 0 to 9
  pub among : r.answer ≤ 9
  -- every buffer keeps its length
  pub output-length : length out ≡ room
  pub records-length : length noted ≡ size
  pub work-length : length area ≡ work
  -- the used part lies in its buffer, and everything past it is zero
  pub used : r.used ≤ room
  pub events : form.extent r.events ≤ size
  pub output-past : drop r.used out ≡ replicate (room - r.used) 0
  pub records-past : drop (form.extent r.events) noted ≡ replicate (size - form.extent r.events) form.blank
  -- on a refusal nothing is used, and the whole output and every event is zero
  pub used-refused : 0 < r.answer → r.used ≡ 0
  pub events-refused : 0 < r.answer → r.events ≡ 0
  pub output-refused : 0 < r.answer → out ≡ replicate room 0
  pub records-refused : 0 < r.answer → noted ≡ replicate size form.blank
  -- the work area is zero after every call
  pub work-zero : area ≡ replicate work 0
  -- steps are reported for 0 and 6 to 9 and are 0 otherwise; they never pass the limit
  pub steps_unreported : 0 < r.answer → r.answer < 6 → r.steps ≡ 0
  pub steps-within : r.steps ≤ limit

-- the sizes that answer 1 is about, besides those of table and text
pub record Sizes (width limit room size work : ℕ) : Type 0 where
  pub output : room ≤ 65536
  pub events : size / event_words ≤ 4096
  pub area : 16384 ≤ work
  pub columns : width ≤ 65535
  pub steps : limit ≤ 100000000

-- ---- demand 3, of two calls

-- valid tables whose documents differ by one listed law at one place, at one width and over the same text
pub record ByOneLaw (g h : Given) : Type 0 where
  pub valid : Valid g.table g.text
  pub valid' : Valid h.table h.text
  pub differ : Differ (document g) (document h)
  pub width : g.width ≡ h.width
  pub text : g.text ≡ h.text

-- not refused for sizes, steps or room
pub record Unrefused (r : Report) : Type 0 where
  pub for-sizes : r.answer ≡ 1 → ⊥
  pub for-steps : r.answer ≡ 7 → ⊥
  pub for-bytes : r.answer ≡ 8 → ⊥
  pub for-events : r.answer ≡ 9 → ⊥

-- the same answer, and the same used bytes and used events in the buffers
pub record Demand3 {A : Type 0} (form : Form A) (r r' : Report) (out out' : List ℕ) (noted noted' : List A) : Type 0 where
  pub answers : r.answer ≡ r'.answer
  pub used : r.used ≡ r'.used
  pub events : r.events ≡ r'.events
  pub bytes : take r.used out ≡ take r'.used out'
  pub records : take (form.extent r.events) noted ≡ take (form.extent r'.events) noted'
