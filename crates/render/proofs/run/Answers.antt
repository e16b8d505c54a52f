use Rattle.render.proofs.Going.{going_start, going_ready, going_on, going_less, ran-due, done-small, ran-done, ran-stop}
use native.Mathlib.Omega.{arith}
use mathlib.Core.Path.{◌∙◌}
use Rattle.render.proofs.run.Goals as goal

pub overflow_sub-due : goal.overflow_sub-due
overflow_sub-due c = omega (arith, c.requires.some)

pub loop-s-init : goal.loop-s-init
loop-s-init c = going_start _ _ _ _ _ _ _ _ c.requires

pub shape_of-out-then-s-eq0 : goal.shape_of-out-then-s-eq0
shape_of-out-then-s-eq0 c = c.loop-s.invariant.outs

pub shape_of-events-then-s-eq0 : goal.shape_of-events-then-s-eq0
shape_of-events-then-s-eq0 c = c.loop-s.invariant.evs

pub shape_of-work-then-s-eq0 : goal.shape_of-work-then-s-eq0
shape_of-work-then-s-eq0 c = c.loop-s.invariant.works

pub returns-then-s-eq0 : goal.returns-then-s-eq0
returns-then-s-eq0 c = ran-due c.loop-s.invariant c.if-s-eq0.true

pub overflow_sub-s : goal.overflow_sub-s
overflow_sub-s c = omega (arith, c.if-s-eq0.false)

pub turn-requires : goal.turn-requires
turn-requires c =
    going_ready c.loop-s.invariant c.if-s-eq0.false

pub loop-s-smaller : goal.loop-s-smaller
loop-s-smaller c =
    going_less c.loop-s.invariant c.if-s-eq0.false c.turn.ensures c.turn.auto.out c.turn.auto.events c.turn.auto.work (rw c.in-Ok-Go.field-0-is at c.in-Ok-Go.is)

pub loop-s-preserved : goal.loop-s-preserved
loop-s-preserved c =
    going_on c.loop-s.invariant c.if-s-eq0.false c.turn.ensures c.turn.auto.out c.turn.auto.events c.turn.auto.work (rw c.in-Ok-Go.field-0-is at c.in-Ok-Go.is)

pub overflow_cast-result : goal.overflow_cast-result
overflow_cast-result c =
    omega (arith, (done-small c.loop-s.invariant c.if-s-eq0.false c.turn.ensures c.turn.auto.out c.turn.auto.events c.turn.auto.work (rw c.in-Ok-Done.field-0-is at c.in-Ok-Done.is)).0)

pub overflow_cast-result-in-Ok-Done : goal.overflow_cast-result-in-Ok-Done
overflow_cast-result-in-Ok-Done c =
    omega (arith, (done-small c.loop-s.invariant c.if-s-eq0.false c.turn.ensures c.turn.auto.out c.turn.auto.events c.turn.auto.work (rw c.in-Ok-Done.field-0-is at c.in-Ok-Done.is)).1)

pub shape_of-out-in-Ok-Done : goal.shape_of-out-in-Ok-Done
shape_of-out-in-Ok-Done c = c.turn.auto.out ∙ c.loop-s.invariant.outs

pub shape_of-events-in-Ok-Done : goal.shape_of-events-in-Ok-Done
shape_of-events-in-Ok-Done c = c.turn.auto.events ∙ c.loop-s.invariant.evs

pub shape_of-work-in-Ok-Done : goal.shape_of-work-in-Ok-Done
shape_of-work-in-Ok-Done c = c.turn.auto.work ∙ c.loop-s.invariant.works

pub returns-in-Ok-Done : goal.returns-in-Ok-Done
returns-in-Ok-Done c =
    ran-done c.loop-s.invariant c.if-s-eq0.false c.turn.ensures c.turn.auto.out c.turn.auto.events c.turn.auto.work (rw c.in-Ok-Done.field-0-is at c.in-Ok-Done.is)

pub shape_of-out-in-Err : goal.shape_of-out-in-Err
shape_of-out-in-Err c = c.turn.auto.out ∙ c.loop-s.invariant.outs

pub shape_of-events-in-Err : goal.shape_of-events-in-Err
shape_of-events-in-Err c = c.turn.auto.events ∙ c.loop-s.invariant.evs

pub shape_of-work-in-Err : goal.shape_of-work-in-Err
shape_of-work-in-Err c = c.turn.auto.work ∙ c.loop-s.invariant.works

pub returns-in-Err : goal.returns-in-Err
returns-in-Err c =
    ran-stop c.loop-s.invariant c.if-s-eq0.false c.turn.ensures c.turn.auto.out c.turn.auto.events c.turn.auto.work c.in-Err.is
