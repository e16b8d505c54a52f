-- What is taken up when a node is done: ends of annotations and trials, until a node is on top or nothing waits.
use Rattle.std.specs.Prelude.{◌≡◌, ℕ, ◌*◌, ◌/◌, ◌≤◌, Bool, Result, Ok, List, [], ◌∷◌, length, ltb}
use Rattle.rules.specs.Call.{event_words}
use Rattle.choice.specs.Pick.{pick}
use Rattle.rules.specs.Layout.{Limits, Page, marked}
use Rattle.machine.specs.Waiting.{Entry, node, trial, closing, back}
use Rattle.machine.specs.Turn.{Turned, on, stop}
use Rattle.waiting.specs.Area.{area_words}
use Rattle.waiting.specs.Stack.{flag_of, stack_of}
use Rattle.waiting.specs.declared.Due.{Due}
use Rattle.page.specs.Reading.{page_of, Within}
use Rattle.lay.specs.Turning.{Turning, Waits}
use Rattle.lay.specs.declared.State.{State}
use Rattle.lay.specs.declared.Turn.{Turn}
use Rattle.lay.specs.declared.Turn.TheVariants.{Done}
use Rattle.lay.specs.declared.Stopped.{Stopped}
use Rattle.render.specs.Visit.{env_of, visited, again}

-- several turns of the step function in one
unfoldable pub take_up : Limits → Page → ℕ → Bool → List Entry → Turned
take_up L p left past [] = on p left past []
take_up L p left past (node n i m ∷ w) = on p left past (node n i m ∷ w)
take_up L p left past (trial b i m s ∷ w) = pick past (on (back s p) left s.past (node b i m ∷ w)) (take_up L p left s.past w)
take_up L p left past (closing n l ∷ w) =
    pick (ltb (length p.events) L.slots) (take_up L (marked 0 l p) left past w) (stop 9 n left)

-- from where a visit led
abbrev pub up_from : Limits → Turned → Turned
up_from L (on p left past w) = take_up L p left past w
up_from L (stop a n left) = stop a n left

-- what is taken up from: what waits and the events lie within their bounds
abbrev pub Rises : State → List ℕ → List ℕ → Type 0
Rises s ev w =
    (s.depth ≤ 1024)
    × (area_words ≤ length w)
    × (s.page.events * event_words ≤ length ev)
    × (length ev / event_words ≤ 4096)
    × (s.page.used ≤ 65536)

-- over a state that is well, and any output; where no node is due nothing is left waiting
pub record TakenUp (s : State) (ev w : List ℕ) (r : Result Turn Stopped) (ev' : List ℕ) : Type 0 where
  pub turning : (L : Limits) (out : List ℕ) (N : ℕ) → L.slots ≡ length ev / event_words → Within s.page out ev → Waits N (length out) s w
      → Turning r out ev' w (take_up L (page_of s.page out ev) s.left (flag_of s.past) (stack_of s.depth w))
  pub empty : (q : State) → r ≡ Ok (Done q) → q.depth ≡ 0

-- a visit, and what is taken up after it
pub record TurnedUp (T tx out ev w : List ℕ) (W : ℕ) (s : State) (h : Due) (r : Result Turn Stopped) (out' ev' w' : List ℕ) : Type 0 where
  pub more : ℕ
  pub turning : (limit : ℕ)
      → Turning r out' ev' w' (up_from (env_of T tx out ev W limit).limits (again (env_of T tx out ev W limit) more (visited T tx out ev w W limit s h)))
  pub empty : (q : State) → r ≡ Ok (Done q) → q.depth ≡ 0
