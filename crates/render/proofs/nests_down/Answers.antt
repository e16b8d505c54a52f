use Rattle.std.proofs.Common.{arith, ◌≡◌, ◌+◌, ◌-◌}
use Rattle.render.proofs.Again.{falls-start, falls-next, nest-below, nest-small}
use Rattle.render.proofs.nests_down.Goals as goal

pub loop-left-init : goal.loop-left-init
loop-left-init c = falls-start _ _ _ c.requires

pub next_in_row-requires-clause-child_below : goal.next_in_row-requires-clause-child_below
next_in_row-requires-clause-child_below c = λ kind. nest-below c.loop-left.invariant.held kind

pub nest_by-indent-requires : goal.nest_by-indent-requires
nest_by-indent-requires c =
    nest-small c.loop-left.invariant.held (c.next_in_row.ensures.of_kind _ c.in-Some.is)

pub loop-left-preserved : goal.loop-left-preserved
loop-left-preserved c =
    let here = c.loop-left.invariant in
    let next = c.next_in_row.ensures in
    falls-next here.held (next.of_kind _ c.in-Some.is) _ (next.beside _ c.in-Some.is) c.nest_by-indent.ensures _ (next.child _ c.in-Some.is) here (omega arith)

pub returns-in_default : goal.returns-in_default
returns-in_default c =
    let here = c.loop-left.invariant in
    let left : c.loop-left.left ≡ c.loop-left.left - 1 + 1 = omega arith in
    rw (← left) here.came

pub returns : goal.returns
returns c =
    let here = c.loop-left.invariant in
    let none : c.loop-left.left ≡ 0 = omega arith in
    rw none at here.came
