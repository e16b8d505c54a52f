-- Request 2026-01 as cases that antt computes: each reason with its node and column, which steps name a visit, and the order of the refusals.
-- Assumes nothing.
use Prim.Native.Nat.{ℕ}
use mathlib.Core.Bool.{Bool, true, ◌&&◌}
use mathlib.Core.List.{List, [], ◌∷◌}
use lib.Dec.{T, eqb}
use Rattle.table.specs.Node.{Node, nil, append, group, flat_alt, hardline, text, annotated, union, fail, node_at}
use Rattle.table.specs.Kinds.{kinds, kind_at}
use Rattle.table.specs.Fault.{columns_right, fault_of, fault_at, first_fault, check}
use Rattle.table.specs.Unfold.{tree_over, trees, tree}
use Rattle.buffer.specs.Utf8.{owed, well_formed, every as every-octet, ascii, no_feed}
use Rattle.rules.specs.Layout.{visit, fit, rest, put, event, lay}
use Rattle.rules.specs.Call.{Given}
use Rattle.rules.specs.Why.{WhyReport, first_in, first_after, reason, why_run, why}
use Rattle.rules.proofs.Case.{at, on, lent}
use Rattle.rules.proofs.Marked.{table_a, lined}

-- what a call is given, with the step that is asked for, and what it answers
record Asked : Type 0 where
  given : Given
  step : ℕ
  answers : WhyReport

-- 0 flat or 1 broken, the reason, node and column
unfoldable says : Given → ℕ → ℕ → ℕ → ℕ → ℕ → Asked
says g step broken reason node column =
    record { given = g; step = step; answers = record { answer = 0; broken = broken; reason = reason; node = node; column = column } }

unfoldable refuses : Given → ℕ → ℕ → Asked
refuses g step answer =
    record { given = g; step = step; answers = record { answer = answer; broken = 0; reason = 0; node = 0; column = 0 } }

-- three columns, then a group
unfoldable behind : Node → List Node
behind n = text 0 3 3 ∷ n ∷ group 1 ∷ append 0 2 ∷ []

unfoldable reasons : List Asked
unfolding table_a lined at on lent says behind
reasons =
    -- nothing left: column equal to width goes on
    says (at table_a "ab cd" 5) 1 0 4 0 0
    -- a Text past the width, inside the group and after it, with the column at its end
    ∷ says (at table_a "ab cd" 4) 1 1 3 4 5
    ∷ says (at table_a "ab cd" 1) 1 1 3 0 2
    ∷ says (on lined " xyz" 4) 2 0 4 0 0
    ∷ says (on lined " xyz" 3) 2 1 3 4 4
    -- past the width a part without a Text still passes, and a Text of no columns says no
    ∷ says (on (behind nil) "abc" 2) 3 0 4 0 0
    ∷ says (on (behind (text 0 0 0)) "abc" 2) 3 1 3 1 3
    ∷ says (on (behind (text 0 0 0)) "abc" 3) 3 0 4 0 0
    -- a Hardline inside the group breaks, with the column reached there; after it, it ends the test
    ∷ says (on (text 0 1 1 ∷ hardline ∷ append 0 1 ∷ group 2 ∷ []) "a" 5) 1 1 2 1 1
    ∷ says (on (text 0 1 1 ∷ group 0 ∷ hardline ∷ append 1 2 ∷ []) "a" 5) 2 0 5 2 0
    -- a Fail breaks from after the group too
    ∷ says (on (text 0 1 1 ∷ fail ∷ append 0 1 ∷ group 2 ∷ []) "a" 5) 1 1 1 1 1
    ∷ says (on (text 0 1 1 ∷ group 0 ∷ fail ∷ append 1 2 ∷ []) "a" 5) 2 1 1 2 1
    -- the first of two: the Hardline before the Fail, the Fail before the Text
    ∷ says (on (hardline ∷ fail ∷ append 0 1 ∷ group 2 ∷ []) "" 5) 1 1 2 0 0
    ∷ says (on (fail ∷ text 0 3 3 ∷ append 0 1 ∷ group 2 ∷ []) "abc" 2) 1 1 1 0 0
    -- a Union is read by its second arm, a FlatAlt inside by its second
    ∷ says (on (fail ∷ nil ∷ union 0 1 ∷ group 2 ∷ []) "" 5) 1 0 4 0 0
    ∷ says (on (fail ∷ nil ∷ flat_alt 0 1 ∷ group 2 ∷ []) "" 5) 1 0 4 0 0
    -- waiting nodes are read as broken
    ∷ says (on (hardline ∷ fail ∷ flat_alt 0 1 ∷ nil ∷ group 3 ∷ append 4 2 ∷ []) "" 5) 2 0 5 0 0
    -- in a trial that is given up later
    ∷ says (on (text 0 1 1 ∷ group 0 ∷ fail ∷ append 1 2 ∷ nil ∷ union 3 4 ∷ []) "a" 5) 3 1 1 2 1
    ∷ []

unfoldable visits : List Asked
unfolding table_a lined at on lent says refuses
visits =
    -- the limit may equal the step, and is not counted in the group's own fit test
    says (lent 1 65536 4096 (at table_a "ab cd" 5)) 1 0 4 0 0
    ∷ refuses (lent 0 65536 4096 (at table_a "ab cd" 5)) 1 7
    -- step 0, at limit 0 too
    ∷ refuses (at table_a "ab cd" 5) 0 13
    ∷ refuses (lent 0 65536 4096 (at table_a "ab cd" 5)) 0 13
    -- a visit inside a fit test; another kind of node; a Group met flat
    ∷ refuses (at table_a "ab cd" 5) 2 13
    ∷ refuses (at table_a "ab cd" 5) 13 13
    ∷ refuses (on (nil ∷ group 0 ∷ group 1 ∷ []) "" 5) 2 13
    ∷ refuses (on (nil ∷ group 0 ∷ group 1 ∷ []) "" 5) 4 13
    -- a run that ends before: with 0, and a step above every limit
    ∷ refuses (at table_a "ab cd" 5) 14 13
    ∷ refuses (on (nil ∷ []) "" 5) 100000001 13
    -- with its own 6 to 9; the visit that is refused is itself no Group
    ∷ refuses (on (fail ∷ []) "" 5) 1 13
    ∷ refuses (on (fail ∷ []) "" 5) 2 6
    ∷ refuses (lent 2 65536 4096 (at table_a "ab cd" 5)) 3 7
    ∷ refuses (lent 9 0 4096 (on (text 0 1 1 ∷ []) "a" 5)) 1 13
    ∷ refuses (lent 9 0 4096 (on (text 0 1 1 ∷ []) "a" 5)) 2 8
    ∷ refuses (lent 9 1 0 (on (nil ∷ annotated 0 7 ∷ []) "" 5)) 1 13
    ∷ refuses (lent 9 1 0 (on (nil ∷ annotated 0 7 ∷ []) "" 5)) 2 9
    -- 1 to 5 come first
    ∷ refuses (on (nil ∷ group 0 ∷ []) "" 65536) 0 1
    ∷ refuses (at (11 ∷ 0 ∷ 0 ∷ 0 ∷ []) "" 5) 0 2
    ∷ refuses (on (nil ∷ append 0 1 ∷ []) "" 5) 0 3
    ∷ []

-- ---- the test

unfoldable same : WhyReport → WhyReport → Bool
same r s =
    eqb r.answer s.answer && eqb r.broken s.broken && eqb r.reason s.reason && eqb r.node s.node && eqb r.column s.column

unfoldable computed : Given → ℕ → WhyReport
unfolding why why_run reason first_in first_after check first_fault fault_at fault_of columns_right well_formed owed ascii no_feed every-octet kind_at kinds tree trees tree_over node_at lay visit put event fit rest
computed g step = why g step

unfoldable every : List Asked → Bool
unfolding same computed
every [] = true
every (q ∷ qs) = same (computed q.given q.step) q.answers && every qs

reasons-hold : T (every reasons)
unfolding reasons every
reasons-hold = tt

visits-hold : T (every visits)
unfolding visits every
visits-hold = tt
