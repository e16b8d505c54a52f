use mathlib.Core.Path.{sym, ◌∙◌}
use mathlib.Core.Bool.{true≢false, false≢true}
use native.Mathlib.Omega.{arith}
use Rattle.fitting.proofs.Walk.{walk_start, count_small, area-kept, height-small, visit_asks, walk-due, walk_down, walk-done, walk_same, walk_yes, walk_no, walk_pop, walk_end, walk-next, walk_fitted}
use Rattle.fitting.proofs.walked.Goals.{in-Fits, in-Wide, in-Done+then-count-eq0+in_default}
use Rattle.fitting.proofs.walked.Goals as goal

pub waiting-init : goal.waiting-init
waiting-init c = walk_start _ c.requires

pub down-init : goal.down-init
down-init c = λ x col w h. h

pub shape_of-work-then-steps-eq0 : goal.shape_of-work-then-steps-eq0
shape_of-work-then-steps-eq0 c = (c.down.invariant _ _ _ c.waiting.invariant).long

pub returns-then-steps-eq0 : goal.returns-then-steps-eq0
returns-then-steps-eq0 c =
    let here = c.down.invariant _ _ _ c.waiting.invariant in
    walk_fitted here.start.deep here.same (walk-due c.waiting.mode.0 c.down.count here c.if-steps-eq0.true)

pub look-requires : goal.look-requires
look-requires c =
    let asks = visit_asks c.waiting.mode.0 c.down.count (c.down.invariant _ _ _ c.waiting.invariant) in
    record { node_in_bounds = asks.0; sound = asks.1.0; in_bounds = asks.1.1 }

pub down-preserved-in-Down : goal.down-preserved-in-Down
down-preserved-in-Down c =
    λ x col w h.
    walk_down _ _ (c.down.invariant x col w h) c.if-steps-eq0.false c.look.ensures c.look.auto.work _ _ c.in-Down.is

pub fit_node-node-requires : goal.fit_node-node-requires
fit_node-node-requires c =
    let here = c.down.invariant _ _ _ c.waiting.invariant in
    let count = c.down.count in
    let mode = c.waiting.mode.0 in
    (omega (arith, count_small mode count here), area-kept mode count here c.look.auto.work)

pub down-preserved : goal.down-preserved
down-preserved c =
    λ x col w h.
    let here = c.down.invariant x col w h in
    let past = walk-done _ _ here c.if-steps-eq0.false c.look.ensures c.look.auto.work _ c.in-Done.is in
    rw c.fit_node-node.ensures (walk_pop _ _ c.if-count-eq0.false past)

pub nearest-requires : goal.nearest-requires
nearest-requires c =
    let here = c.down.invariant _ _ _ c.waiting.invariant in
    let count = c.down.count in
    let mode = c.waiting.mode.0 in
    (height-small mode count here, area-kept mode count here c.look.auto.work)

pub node_at-node-requires : goal.node_at-node-requires
node_at-node-requires c =
    let here = c.down.invariant _ _ _ c.waiting.invariant in
    let count = c.down.count in
    let mode = c.waiting.mode.0 in
    let below = rw c.in-Some.is at c.nearest.ensures.within in
    (omega (arith, height-small mode count here, below), area-kept mode count here c.look.auto.work)

pub waiting-smaller : goal.waiting-smaller
waiting-smaller c = rw c.in-Some.is at c.nearest.ensures.within

pub waiting-preserved : goal.waiting-preserved
waiting-preserved c =
    let here = c.down.invariant _ _ _ c.waiting.invariant in
    let past = walk-done _ _ here c.if-steps-eq0.false c.look.ensures c.look.auto.work _ c.in-Done.is in
    let next = walk-next c.waiting.mode.0 _ _ c.if-count-eq0.true past c.nearest.ensures c.in-Some.is in
    rw c.node_at-node.ensures next

pub returns-then-fits : goal.returns-then-fits
returns-then-fits c =
    let here = c.down.invariant _ _ _ c.waiting.invariant in
    let step = c.look.ensures in
    let long = c.look.auto.work in
    walk_fitted here.start.deep (walk_same _ _ here c.if-steps-eq0.false step long)
    (elim c.match-look.branch [
      | in-Fits w ↦ walk_yes _ _ here c.if-steps-eq0.false step long w.in-Fits.is
      | in-Wide w ↦ absurd (false≢true (sym w.fits-is ∙ c.if-fits.true))
      | in-Done+then-count-eq0+in_default w ↦
          let past = walk-done _ _ here c.if-steps-eq0.false step long _ w.in-Done.is in
          walk_end c.waiting.mode.0 _ w.if-count-eq0.true past w.nearest.ensures w.in_default.is
    ])

pub returns-else-fits : goal.returns-else-fits
returns-else-fits c =
    let here = c.down.invariant _ _ _ c.waiting.invariant in
    let step = c.look.ensures in
    let long = c.look.auto.work in
    walk_fitted here.start.deep (walk_same _ _ here c.if-steps-eq0.false step long)
    (elim c.match-look.branch [
      | in-Fits w ↦ absurd (true≢false (sym w.fits-is ∙ c.if-fits.false))
      | in-Wide w ↦ walk_no _ _ here c.if-steps-eq0.false step long w.in-Wide.is
      | in-Done+then-count-eq0+in_default w ↦ absurd (true≢false (sym w.fits-is ∙ c.if-fits.false))
    ])
