-- Cases that antt computes: what a call is given, and all that it answers. `every` tests a list of cases, through the whole call.
-- A file of cases states `T (every cases)` and proves it by `tt` under `unfolding cases every`. How a table and a text are written for one
-- stands first; a case may have any list of words for its table too.
-- Assumes nothing.
use Prim.Native.Nat.{ℕ}
use Prim.Native.Char.{code}
use Prim.Native.String.{String}
use mathlib.Core.Bool.{Bool, true, false, ◌&&◌}
use mathlib.Core.List.{List, [], ◌∷◌}
use lib.Dec.{eqb}
use Rattle.table.specs.Node.{adds, subtracts, Node, nil, append, group, flat_alt, nest, hardline, text, annotated, union, align, fail, node_at}
use Rattle.table.specs.Kinds.{kinds, kind_at}
use Rattle.buffer.specs.Utf8.{owed, well_formed, every as every-octet, ascii, no_feed}
use Rattle.table.specs.Fault.{columns_right, fault_of, fault_at, first_fault, check}
use Rattle.table.specs.Unfold.{tree_over, trees, tree}
use Rattle.rules.specs.Layout.{Report, visit, fit, rest, put, event, lay, layout}
use Rattle.rules.specs.Call.{Given, words_of, call}

-- ---- writing a table and its text

-- the bytes of a text in ASCII
unfoldable pub ascii-bytes : String → List ℕ
ascii-bytes String.[] = []
ascii-bytes (String.◌∷◌ c s) = code c ∷ ascii-bytes s

-- the words of a list of nodes
unfoldable pub written : List Node → List ℕ
written [] = []
written (nil ∷ ns) = 0 ∷ 0 ∷ 0 ∷ 0 ∷ written ns
written (append a b ∷ ns) = 1 ∷ a ∷ b ∷ 0 ∷ written ns
written (group a ∷ ns) = 2 ∷ a ∷ 0 ∷ 0 ∷ written ns
written (flat_alt a b ∷ ns) = 3 ∷ a ∷ b ∷ 0 ∷ written ns
written (nest a k adds ∷ ns) = 4 ∷ a ∷ k ∷ 0 ∷ written ns
written (nest a k subtracts ∷ ns) = 4 ∷ a ∷ k ∷ 1 ∷ written ns
written (hardline ∷ ns) = 5 ∷ 0 ∷ 0 ∷ 0 ∷ written ns
written (text o l c ∷ ns) = 6 ∷ o ∷ l ∷ c ∷ written ns
written (annotated a l ∷ ns) = 7 ∷ a ∷ l ∷ 0 ∷ written ns
written (union a b ∷ ns) = 8 ∷ a ∷ b ∷ 0 ∷ written ns
written (align a ∷ ns) = 9 ∷ a ∷ 0 ∷ 0 ∷ written ns
written (fail ∷ ns) = 10 ∷ 0 ∷ 0 ∷ 0 ∷ written ns

-- ---- cases

-- what a call is given, and its answer, place, steps, used bytes and used events as words
pub record Case : Type 0 where
  pub given : Given
  pub answer : ℕ
  pub place : ℕ
  pub steps : ℕ
  pub bytes : List ℕ
  pub events : List ℕ

-- one as a program writes it (Sample.antt): table, text, width, step limit, bytes of output, event records; then what it answers
unfoldable pub case : List ℕ → List ℕ → ℕ → ℕ → ℕ → ℕ → ℕ → ℕ → ℕ → List ℕ → List ℕ → Case
case table bytes width limit room slots answer place steps out events =
    record {
      given = record { table = table; text = bytes; width = width; limit = limit; room = room; slots = slots; work = 16384 };
      answer = answer;
      place = place;
      steps = steps;
      bytes = out;
      events = events;
    }

-- this table, text and width, in the largest buffers and with the default steps
unfoldable pub at : List ℕ → String → ℕ → Given
unfolding ascii-bytes
at table chars width =
    record { table = table; text = ascii-bytes chars; width = width; limit = 1000000; room = 65536; slots = 4096; work = 16384 }

-- the same with the table written by its nodes
unfoldable pub on : List Node → String → ℕ → Given
unfolding written at
on nodes chars width = at (written nodes) chars width

-- the same with this step limit, bytes of output and event records
unfoldable pub lent : ℕ → ℕ → ℕ → Given → Given
lent limit room slots g =
    record { table = g.table; text = g.text; width = g.width; limit = limit; room = room; slots = slots; work = g.work }

-- laid out: with the steps, the bytes and the events
unfoldable pub gives : Given → ℕ → String → List ℕ → Case
unfolding ascii-bytes
gives g steps out events = record { given = g; answer = 0; place = 0; steps = steps; bytes = ascii-bytes out; events = events }

-- refused: with the answer, the place and the steps
unfoldable pub refuses : Given → ℕ → ℕ → ℕ → Case
refuses g answer place steps = record { given = g; answer = answer; place = place; steps = steps; bytes = []; events = [] }

-- ---- the test

unfoldable pub same : List ℕ → List ℕ → Bool
same [] [] = true
same [] (y ∷ ys) = false
same (x ∷ xs) [] = false
same (x ∷ xs) (y ∷ ys) = eqb x y && same xs ys

unfoldable pub meets : Report → Case → Bool
unfolding same words_of
meets r c =
    eqb r.answer c.answer
    && eqb r.place c.place
    && eqb r.steps c.steps
    && same r.bytes c.bytes
    && same (words_of r.events) c.events

-- the call, computed
unfoldable pub computed : Given → Report
unfolding call check first_fault fault_at fault_of columns_right well_formed owed ascii no_feed every-octet kind_at kinds tree trees tree_over node_at layout lay visit put event fit rest
computed g = call g

unfoldable pub every : List Case → Bool
unfolding meets computed
every [] = true
every (c ∷ cs) = meets (computed c.given) c && every cs
