use native.Mathlib.Omega.{arith}
use Rattle.fitting.proofs.Row.{row-start, row_on, child-below}
use Rattle.fitting.proofs.groups_down.Goals as goal

pub loop-down-init : goal.loop-down-init
loop-down-init c = record { known = c.requires; below = row-start _ _ _; here = omega arith }

pub next_in_row-requires-clause-child_below : goal.next_in_row-requires-clause-child_below
next_in_row-requires-clause-child_below c = λ kind. child-below c.loop-down.invariant kind

pub loop-down-preserved : goal.loop-down-preserved
loop-down-preserved c =
    let next = c.next_in_row.ensures in
    rw (next.child _ c.in-Some.is) (row_on c.loop-down.invariant (next.of_kind _ c.in-Some.is) (omega arith) (next.beside _ c.in-Some.is))
