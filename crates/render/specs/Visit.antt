-- What a run starts from; what a visit of the node due starts from, and what it promises.
use Rattle.std.specs.Prelude.{◌≡◌, ℕ, zero, suc, ◌+◌, ◌*◌, ◌/◌, ◌≤◌, ◌<◌, Bool, Result, List, [], ◌∷◌, length}
use Rattle.rules.specs.Call.{event_words}
use Rattle.table.specs.Node.{node_at}
use Rattle.table.specs.Sound.{AllSound}
use Rattle.rules.specs.Layout.{Page}
use Rattle.machine.specs.Waiting.{Entry}
use Rattle.machine.specs.Turn.{Env, Turned, on, stop, turn, visit}
use Rattle.machine.specs.Well.{Stacked}
use Rattle.waiting.specs.Area.{area_words}
use Rattle.waiting.specs.Stack.{mode_of, flag_of, top, stack_of}
use Rattle.waiting.specs.declared.Due.{Due}
use Rattle.fitting.specs.Fitting.{Known}
use Rattle.page.specs.Reading.{page_of, takes, Within}
use Rattle.lay.specs.Turning.{Turning}
use Rattle.lay.specs.declared.State.{State}
use Rattle.lay.specs.declared.Turn.{Turn}
use Rattle.lay.specs.declared.Stopped.{Stopped}
use Rattle.render.specs.declared.Nested.{Nested}

-- table, text, output, events, width and limit, as the step function has them
abbrev pub env_of : List ℕ → List ℕ → List ℕ → List ℕ → ℕ → ℕ → Env
env_of T tx out ev W limit =
    record { table = T; str = tx; limits = record { width = W; limit = limit; room = length out; slots = length ev / event_words } }

-- a valid table of N nodes, at least one; sizes within bounds
pub record Start (T tx out ev w : List ℕ) (W N : ℕ) : Type 0 where
  pub valid : AllSound T (length tx) N
  pub some : 0 < N
  pub words : N * 4 ≤ length T
  pub small : N ≤ 1024
  pub texts : length tx ≤ 65536
  pub room : length out ≤ 65536
  pub slots : length ev / event_words ≤ 4096
  pub area : area_words ≤ length w
  pub width : W ≤ 65535

-- the same with a state that is well, and the node due on top
pub record Ready (T tx out ev w : List ℕ) (W : ℕ) (s : State) (h : Due) : Type 0 where
  pub N : ℕ
  pub start : Start T tx out ev w W N
  pub within : Within s.page out ev
  pub column : s.page.column.0 ≤ takes s.page
  pub stack : Stacked N (length out) s.page.used s.page.events (top h ∷ stack_of s.depth w)

-- the visit of the step function
abbrev pub visited : List ℕ → List ℕ → List ℕ → List ℕ → List ℕ → ℕ → ℕ → State → Due → Turned
visited T tx out ev w W limit s h =
    visit (env_of T tx out ev W limit) h.node.0 (node_at T h.node.0) h.indent.0 (mode_of h.mode.0)
    (page_of s.page out ev) s.left (flag_of s.past) (stack_of s.depth w)

-- so many turns of the step function more, as far as there are steps
abbrev pub again : Env → ℕ → Turned → Turned
again E zero t = t
again E (suc k) (on p zero past w) = on p zero past w
again E (suc k) (on p (suc left) past []) = on p (suc left) past []
again E (suc k) (on p (suc left) past (e ∷ w)) = again E k (turn E p (suc left) past e w)
again E (suc k) (stop a n left) = stop a n left

-- it leads where the step function leads, by the visit and some turns more
pub record Visited (T tx out ev w : List ℕ) (W : ℕ) (s : State) (h : Due) (r : Result Turn Stopped) (out' ev' w' : List ℕ) : Type 0 where
  pub more : ℕ
  pub turning : (limit : ℕ) → Turning r out' ev' w' (again (env_of T tx out ev W limit) more (visited T tx out ev w W limit s h))

-- a node due of a valid table, its indentation within what its number allows
pub record Held (T : List ℕ) (h : Due) : Type 0 where
  pub known : Known T h.node.0
  pub small : known.N ≤ 1024
  pub indent : h.indent.0 + 1000 * suc h.node.0 ≤ 65536 + 1000 * known.N

-- from h with so many steps left the step function comes to r, and nothing but the node due has changed
pub record Came (T : List ℕ) (left : ℕ) (h : Due) (r : Nested) : Type 0 where
  pub more : ℕ
  pub said : (E : Env) (p : Page) (past : Bool) (w : List Entry) → E.table ≡ T
      → again E more (on p left past (top h ∷ w)) ≡ on p r.left past (top r.due ∷ w)
