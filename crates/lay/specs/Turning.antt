-- How a turn of the code is read, and what the functions of a turn promise: where they lead is where the step function leads.
use Rattle.std.specs.Prelude.{◌≡◌, ℕ, ◌/◌, Bool, Result, Ok, Err, List, ◌∷◌, length}
use Rattle.table.specs.Refusal.{number}
use Rattle.rules.specs.Call.{event_words}
use Rattle.rules.specs.Layout.{Limits, Page}
use Rattle.machine.specs.Turn.{Turned, on, stop, put}
use Rattle.machine.specs.Well.{Stacked}
use Rattle.page.specs.Reading.{page_of, Within}
use Rattle.waiting.specs.Stack.{flag_of, top, stack_of}
use Rattle.waiting.specs.declared.Saved.{Saved}
use Rattle.lay.specs.declared.State.{State}
use Rattle.lay.specs.declared.Turn.{Turn}
use Rattle.lay.specs.declared.Turn.TheVariants.{Go, Done}
use Rattle.lay.specs.declared.Stopped.{Stopped}

-- where a turn of the code leads, over the output, the events and the work area
abbrev pub turned_of : Result Turn Stopped → List ℕ → List ℕ → List ℕ → Turned
turned_of (Ok (Go s due)) out ev w = on (page_of s.page out ev) s.left (flag_of s.past) (top due ∷ stack_of s.depth w)
turned_of (Ok (Done s)) out ev w = on (page_of s.page out ev) s.left (flag_of s.past) (stack_of s.depth w)
turned_of (Err e) out ev w = stop (number e.why) e.place.0 e.left

-- its page lies within the buffers
abbrev pub TurnWithin : Result Turn Stopped → List ℕ → List ℕ → Type 0
TurnWithin (Ok (Go s due)) out ev = Within s.page out ev
TurnWithin (Ok (Done s)) out ev = Within s.page out ev
TurnWithin (Err e) out ev = Unit {0}

-- it leads where the step function leads, t
pub record Turning (r : Result Turn Stopped) (out ev w : List ℕ) (t : Turned) : Type 0 where
  pub same : turned_of r out ev w ≡ t
  pub within : TurnWithin r out ev

-- what waits is well, of N nodes and over so much room
abbrev pub Waits : ℕ → ℕ → State → List ℕ → Type 0
Waits N room s w = Stacked N room s.page.used s.page.events (stack_of s.depth w)

-- a function that writes the work area alone
pub record Kept (s : State) (r : Result Turn Stopped) (w' : List ℕ) (t : Page → Turned) : Type 0 where
  pub turning : (out ev : List ℕ) → Within s.page out ev → Turning r out ev w' (t (page_of s.page out ev))

-- a function that writes nothing, where what waits is well
pub record Restoring (s : State) (w : List ℕ) (r : Result Turn Stopped) (t : Page → Turned) : Type 0 where
  pub turning : (out ev : List ℕ) (N : ℕ) → Within s.page out ev → Waits N (length out) s w → Turning r out ev w (t (page_of s.page out ev))

-- a function that writes the output alone: the page `grown` fits whole or answers 8, and `past` says whether a Text has ended past width
pub record Wrote (s : State) (out : List ℕ) (r : Result Turn Stopped) (out' : List ℕ) (grown : Page → Page) (past : Bool) : Type 0 where
  pub turning : (L : Limits) (ev w : List ℕ) → L.room ≡ length out → Within s.page out ev
      → Turning r out' ev w (put L (grown (page_of s.page out ev)) s.left past (stack_of s.depth w))

-- a function that writes the events and the work area
pub record Annotated (s : State) (ev : List ℕ) (r : Result Turn Stopped) (ev' w' : List ℕ) (t : Limits → Page → Turned) : Type 0 where
  pub turning : (L : Limits) (out : List ℕ) → L.slots ≡ length ev / event_words → Within s.page out ev
      → Turning r out ev' w' (t L (page_of s.page out ev))

-- the state that a trial saved, with d entries waiting
abbrev pub restored_of : ℕ → Saved → ℕ → State
restored_of left saved d = record { page = saved.page; left = left; past = saved.past; depth = d }
