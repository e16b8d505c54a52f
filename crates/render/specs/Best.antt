-- What a run promises: the step function's report; and where it ended with 7, what was due.
use Rattle.std.specs.Prelude.{◌≡◌, ℕ, ◌-◌, ◌*◌, ◌≤◌, ◌<◌, Result, Ok, Err, List, ◌∷◌, length, take}
use Rattle.table.specs.Refusal.{number}
use Rattle.table.specs.declared.refusal.Refusal.TheVariants.{NoSteps}
use Rattle.rules.specs.Call.{event_words}
use Rattle.rules.specs.Layout.{Report}
use Rattle.machine.specs.Turn.{Env, layout}
use Rattle.machine.specs.Well.{Nodes}
use Rattle.machine.specs.Reached.{Reached, Stops}
use Rattle.page.specs.Reading.{events_of, page_of}
use Rattle.render.specs.Visit.{env_of}
use Rattle.waiting.specs.Stack.{flag_of, top, stack_of}
use Rattle.waiting.specs.declared.Due.{Due}
use Rattle.lay.specs.declared.State.{State}
use Rattle.lay.specs.declared.Stopped.{Stopped}
use Rattle.render.specs.declared.End.{End}
use Rattle.render.specs.declared.Ran.{Ran}
use Rattle.render.specs.declared.Ran.TheVariants.{Ended, AtLimit}

-- how the code's run ended, by document 01's numbers: a run that stopped uses nothing
abbrev pub answer_of : Result End Stopped → ℕ
answer_of (Ok e) = 0
answer_of (Err e) = number e.why

abbrev pub place_of : Result End Stopped → ℕ
place_of (Ok e) = 0
place_of (Err e) = e.place.0

abbrev pub left_of : Result End Stopped → ℕ
left_of (Ok e) = e.left
left_of (Err e) = e.left

abbrev pub used_of : Result End Stopped → ℕ
used_of (Ok e) = e.used
used_of (Err e) = 0

abbrev pub noted_of : Result End Stopped → ℕ
noted_of (Ok e) = e.events
noted_of (Err e) = 0

-- the same as a report over the output and the events
abbrev pub report_of : ℕ → Result End Stopped → List ℕ → List ℕ → Report
report_of limit r out ev =
    record { answer = answer_of r; place = place_of r; steps = limit - left_of r; bytes = take (used_of r) out; events = events_of (noted_of r) ev }

pub record Laid (T tx out ev : List ℕ) (W limit N : ℕ) (r : Result End Stopped) (out' ev' : List ℕ) : Type 0 where
  pub same : report_of limit r out' ev' ≡ layout (env_of T tx out ev W limit) (N - 1)
  pub used : used_of r ≤ length out'
  pub events : noted_of r * event_words ≤ length ev'
  pub left : left_of r ≤ limit

-- ---- what was due

-- a node of a run was due in layout with no step left
pub record Halted (E : Env) (N : ℕ) (s : State) (h : Due) (out ev w : List ℕ) : Type 0 where
  pub reached : Reached E (N - 1) (page_of s.page out ev) 0 (flag_of s.past) (top h ∷ stack_of s.depth w)
  pub node : h.node.0 < N
  pub column : s.page.column.0 ≤ 65536
  pub depth : s.depth ≤ 1024
  pub nodes : Nodes N (stack_of s.depth w)

-- a run that ended otherwise with 7: the node due was a fit test's
abbrev pub Ends : Env → ℕ → Ran → List ℕ → List ℕ → List ℕ → Type 0
Ends E N (Ended r) out ev w = answer_of r ≡ 7 → Stops E (N - 1) (answer_of r) (place_of r) (left_of r)
Ends E N (AtLimit s h) out ev w = Halted E N s h out ev w

abbrev pub end_of : Ran → Result End Stopped
end_of (Ended r) = r
end_of (AtLimit s h) = Err (record { why = NoSteps; place = h.node; left = 0 })

pub record RanTo (T tx out ev : List ℕ) (W limit N : ℕ) (r : Ran) (out' ev' w' : List ℕ) : Type 0 where
  pub laid : Laid T tx out ev W limit N (end_of r) out' ev'
  pub ends : Ends (env_of T tx out ev W limit) N r out' ev' w'
