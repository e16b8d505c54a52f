-- What the call promises: the answer or the reason is the rules' definition of `why`, and every lent buffer ends zero.
-- Assumes nothing.
use Rattle.std.specs.Prelude.{◌≡◌, ℕ, ◌+◌, ◌*◌, ◌/◌, ◌≤◌, ◌<◌, Result, Ok, Err, List, length, replicate, get_or}
use Rattle.table.specs.Unfold.{tree, root}
use Rattle.table.specs.Sound.{AllSound}
use Rattle.rules.specs.Call.{Given}
use Rattle.rules.specs.Why.{WhyReport, why_refused, told, reason, why_run}
use Rattle.rules.specs.Why as rules
use Rattle.machine.specs.Waiting.{waiting}
use Rattle.machine.specs.Well.{Nodes}
use Rattle.waiting.specs.Area.{area_words}
use Rattle.waiting.specs.Stack.{stack_of}
use Rattle.waiting.specs.declared.Due.{Due}
use Rattle.summary.specs.Promise.{reason_of}
use Rattle.lay.specs.declared.State.{State}
use Rattle.render.specs.Visit.{env_of}
use Rattle.table.specs.Refusal.{number}
use Rattle.summary.specs.declared.Reason.{Reason}
use Rattle.why.specs.declared.WhyRefused.{WhyRefused}
use Rattle.why.specs.declared.WhyRefused.TheVariants.{Refused, NoVisit}

-- document 01's number of a refusal
abbrev pub refused_number : WhyRefused → ℕ
refused_number (Refused why) = number why
refused_number NoVisit = 13

-- a reason, or why none is told
abbrev pub Answer : Type 0
Answer = Result Reason WhyRefused

-- the numbers of an answer
abbrev pub why_of : Answer → WhyReport
why_of (Ok r) = told (reason_of r)
why_of (Err refused) = why_refused (refused_number refused)

-- the whole call; `words` is how many words of events are lent
pub record WhyCalled (g : Given) (words step : ℕ) (r : Answer) (out events work : List ℕ) : Type 0 where
  pub same : why_of r ≡ rules.why g step
  pub output : out ≡ replicate g.room 0
  pub noted : events ≡ replicate words 0
  pub cleared : work ≡ replicate g.work 0

-- before the buffers are cleared
abbrev pub Decided : Given → ℕ → Answer → Type 0
Decided g step r = why_of r ≡ rules.why g step

-- of a valid table
abbrev pub Asked : List ℕ → List ℕ → List ℕ → List ℕ → ℕ → ℕ → ℕ → Answer → Type 0
Asked T tx out ev W limit step r = why_of r ≡ why_run (env_of T tx out ev W limit).limits (tree T tx (root T)) step

-- ---- the visit

-- a node of a valid table that is due in layout, with what waits
pub record Visiting (T w : List ℕ) (W : ℕ) (s : State) (h : Due) : Type 0 where
  pub valid : AllSound T 65536 (length T / 4)
  pub small : length T / 4 ≤ 1024
  pub area : area_words ≤ length w
  pub node : h.node.0 < length T / 4
  pub column : s.page.column.0 ≤ 65536
  pub depth : s.depth ≤ 1024
  pub nodes : Nodes (length T / 4) (stack_of s.depth w)
  pub width : W ≤ 65536

-- a Group met broken has the rules' reason, whatever the text bytes are; any other visit is 13
pub record Visited (T w : List ℕ) (W : ℕ) (s : State) (h : Due) (r : Answer) : Type 0 where
  pub group : get_or T (h.node.0 * 4) 0 ≡ 2 → h.mode.0 ≡ 0 → (bytes : List ℕ)
      → why_of r ≡ told (reason W (tree T bytes (get_or T (h.node.0 * 4 + 1) 0)) (waiting (tree T bytes) (stack_of s.depth w)) s.page.column.0)
  pub flat : (h.mode.0 ≡ 0 → ⊥) → why_of r ≡ why_refused 13
  pub other : (get_or T (h.node.0 * 4) 0 ≡ 2 → ⊥) → why_of r ≡ why_refused 13
