-- Why a group went onto several lines or stayed on one (document 02, request 2026-01): the reasons; the first node that the group's fit test meets
-- that breaks it or ends it flat, without steps, for the limit counts only up to the visit of the Group; which visit a step names; and the whole call.
-- proofs/Reasons.antt: a fit test with steps enough says yes exactly if the reason is one of the two for flat.
-- Assumes nothing.
use Rattle.std.specs.Prelude.{ℕ, zero, suc, ◌+◌, Bool, true, false, List, [], ◌∷◌, leb, ltb, eqb}
use Rattle.choice.specs.Pick.{pick}
use Rattle.table.specs.Fault.{Fault, check}
use Rattle.table.specs.Unfold.{tree, root, Tree, nil, append, group, flat_alt, nest, hardline, text, annotated, union, align, fail}
use Rattle.rules.specs.Layout.{Limits, blank, Mode, flat, broken, Entry, Due, broken_group, other, number, steps, bytes, events, Outcome, done, failed, refused, report, lay}
use Rattle.rules.specs.Call.{Given, buffers_right, limits}

-- Broken has one of three, with node and column: the column is that reached at the node, for a Text at its end.
-- Flat has one of two: nothing was left, or a Hardline after the group, with its node.
pub data Reason : Type 0 where
  at_fail : ℕ → ℕ → Reason
  hardline_inside : ℕ → ℕ → Reason
  text_past : ℕ → ℕ → Reason
  nothing_left : Reason
  hardline_after : ℕ → Reason

-- ---- what is reported of a reason

abbrev pub goes_flat : Reason → Bool
goes_flat (at_fail n c) = false
goes_flat (hardline_inside n c) = false
goes_flat (text_past n c) = false
goes_flat nothing_left = true
goes_flat (hardline_after n) = true

abbrev pub reason_number : Reason → ℕ
reason_number (at_fail n c) = 1
reason_number (hardline_inside n c) = 2
reason_number (text_past n c) = 3
reason_number nothing_left = 4
reason_number (hardline_after n) = 5

-- nothing left gives node 0
abbrev pub reason_node : Reason → ℕ
reason_node (at_fail n c) = n
reason_node (hardline_inside n c) = n
reason_node (text_past n c) = n
reason_node nothing_left = 0
reason_node (hardline_after n) = n

-- flat gives column 0
abbrev pub reason_column : Reason → ℕ
reason_column (at_fail n c) = c
reason_column (hardline_inside n c) = c
reason_column (text_past n c) = c
reason_column nothing_left = 0
reason_column (hardline_after n) = 0

-- ---- the first such node

-- where the walk down a node leads: through it, to a column; or to a reason
pub data Met : Type 0 where
  through : ℕ → Met
  found : Reason → Met

-- what comes next is read only if the walk came through
abbrev pub then_meets : Met → (ℕ → Met) → Met
then_meets (through c) next = next c
then_meets (found r) next = found r

abbrev pub or_else : Met → (ℕ → Reason) → Reason
or_else (through c) next = next c
or_else (found r) next = r

module _ (width : ℕ) where
  -- the Text n, which ends at this column: past width it breaks; equal to width goes on
  abbrev pub text_met : ℕ → ℕ → Met
  text_met n end = elim (leb end width) [ true ↦ through end | false ↦ found (text_past n end) ]

  -- The walk down a node in mode m from column c, as the fit test goes: Append, Group, Nest, Align and Annotated are walked through; Union takes its
  -- second arm; FlatAlt goes by mode. Only a Hardline has a side: flat is inside the group, broken after it.
  unfoldable pub first_in : Tree → Mode → ℕ → Met
  first_in (nil n) m c = through c
  first_in (append n a b) m c = then_meets (first_in a m c) (λ c. first_in b m c)
  first_in (group n a) m c = first_in a m c
  first_in (flat_alt n a b) flat c = first_in b flat c
  first_in (flat_alt n a b) broken c = first_in a broken c
  first_in (nest n a k way) m c = first_in a m c
  first_in (hardline n) flat c = found (hardline_inside n c)
  first_in (hardline n) broken c = found (hardline_after n)
  first_in (text n bs cols) m c = text_met n (c + cols)
  first_in (annotated n a l) m c = first_in a m c
  first_in (union n a b) m c = first_in b m c
  first_in (align n a) m c = first_in a m c
  first_in (fail n) m c = found (at_fail n c)

  -- the waiting nodes in order, all read as broken
  unfoldable pub first_after : List Entry → ℕ → Reason
  first_after [] c = nothing_left
  first_after (w ∷ ws) c = or_else (first_in w.what broken c) (λ c. first_after ws c)

  -- A Group with child a, met broken in layout at column c, where ws wait: its child, flat, then the waiting nodes.
  unfoldable pub reason : Tree → List Entry → ℕ → Reason
  reason a ws c = or_else (first_in a flat c) (λ c. first_after ws c)

-- ---- the visit that a step names

-- the answer; 0 flat or 1 broken; the reason's number; node and column. On a refusal every field but the answer is 0.
pub record WhyReport : Type 0 where
  pub answer : ℕ
  pub broken : ℕ
  pub reason : ℕ
  pub node : ℕ
  pub column : ℕ

abbrev pub why_refused : ℕ → WhyReport
why_refused answer = record { answer = answer; broken = 0; reason = 0; node = 0; column = 0 }

abbrev pub told : Reason → WhyReport
told r = record { answer = 0; broken = pick (goes_flat r) 0 1; reason = reason_number r; node = reason_node r; column = reason_column r }

-- a Group met broken in layout has a reason; a step that is no such visit is 13
abbrev pub why_due : ℕ → Due → WhyReport
why_due width (broken_group a ws c) = told (reason width a ws c)
why_due width other = why_refused 13

-- a run that ends before the visit gives its own 6 to 9, or 13 if it ends with 0
abbrev pub ended_before : Outcome → WhyReport
ended_before (done p past s) = why_refused 13
ended_before (failed s) = why_refused 6
ended_before (refused r n s) = why_refused (number r)

-- what was due where a run ended with 7; `other` where it ended otherwise
abbrev pub due_in : Outcome → Due
due_in (done p past s) = other
due_in (failed s) = other
due_in (refused (steps d) n s) = d
due_in (refused bytes n s) = other
due_in (refused events n s) = other

-- a run whose limit is one step short of the visit: where it ends with 7 the visit's node was due
abbrev pub at_visit : ℕ → Outcome → WhyReport
at_visit width x = pick (eqb (report x).answer 7) (why_due width (due_in x)) (ended_before x)

-- the run of a tree with this step limit in place of its own
abbrev pub run_to : Limits → ℕ → Tree → Outcome
run_to L k t = lay (record { width = L.width; limit = k; room = L.room; slots = L.slots }) t 0 broken [] blank 0

-- Step 0 names no visit. The limit counts only up to the visit, so the two may be equal.
unfoldable pub why_run : Limits → Tree → ℕ → WhyReport
why_run L t zero = why_refused 13
why_run L t (suc k) = pick (ltb k L.limit) (at_visit L.width (run_to L k t)) (ended_before (run_to L L.limit t))

-- ---- the whole call

abbrev pub unless_faulty : Fault → WhyReport → WhyReport
unless_faulty f r = pick (eqb f.answer 0) r (why_refused f.answer)

-- 1 comes first, then the faults of the table, then the visit; the buffers end zero (Call.antt, `buffers` of a refusal)
unfoldable pub why : Given → ℕ → WhyReport
why g step =
    pick (buffers_right g) (unless_faulty (check g.table g.text) (why_run (limits g) (tree g.table g.text (root g.table)) step)) (why_refused 1)
