use Rattle.render.proofs.Rising.{rise-start, rise-done, rise-node, rise_give, rise_keep, rise-full, rise_close}
use native.Mathlib.Omega.{arith}
use mathlib.Core.Path.{sym, ◌∙◌}
use Rattle.render.proofs.take_up_ends.Goals as goal

pub loop-s-init : goal.loop-s-init
loop-s-init c = rise-start _ _ _ c.requires

pub shape_of-events-in-Node : goal.shape_of-events-in-Node
shape_of-events-in-Node c = c.loop-s.invariant.long

pub returns-in-Node : goal.returns-in-Node
returns-in-Node c =
    let here = c.loop-s.invariant in
    rise-node here c.loop-s-test.true _ (sym c.tag_at.ensures ∙ c.in-Node.is) c.due_at.ensures

pub shape_of-events-then-s-ne0 : goal.shape_of-events-then-s-ne0
shape_of-events-then-s-ne0 c = c.loop-s.invariant.long

pub returns-then-s-ne0 : goal.returns-then-s-ne0
returns-then-s-ne0 c =
    let here = c.loop-s.invariant in
    rise_give here c.loop-s-test.true _ _ _ (sym c.tag_at.ensures ∙ c.in-Trial.is) c.if-s-ne0.true
    c.due_at-then-s-ne0.ensures
    c.saved_at-saved.ensures
    c.restored.ensures

pub shape_of-events-in_default : goal.shape_of-events-in_default
shape_of-events-in_default c = c.note_event.auto.events ∙ c.loop-s.invariant.long

pub returns-in_default : goal.returns-in_default
returns-in_default c =
    let here = c.loop-s.invariant in
    let event = rw c.label_at.ensures at c.note_event.ensures in
    rise-full here c.loop-s-test.true (sym c.tag_at.ensures ∙ c.in-Closing.is) event c.note_event.auto.events _ c.node_at.ensures c.in_default.is

pub loop-s-preserved-else-s-ne0 : goal.loop-s-preserved-else-s-ne0
loop-s-preserved-else-s-ne0 c =
    let here = c.loop-s.invariant in
    rise_keep here c.loop-s-test.true _ (sym c.tag_at.ensures ∙ c.in-Trial.is) (omega (arith, c.if-s-ne0.false)) c.saved_at-saved.ensures

pub loop-s-preserved : goal.loop-s-preserved
loop-s-preserved c =
    let here = c.loop-s.invariant in
    let event = rw c.label_at.ensures at c.note_event.ensures in
    rise_close here c.loop-s-test.true (sym c.tag_at.ensures ∙ c.in-Closing.is) event c.note_event.auto.events _ c.in-Some.is

pub shape_of-events : goal.shape_of-events
shape_of-events c = c.loop-s.invariant.long

pub returns : goal.returns
returns c = rise-done c.loop-s.invariant (omega (arith, c.loop-s-test.false))
