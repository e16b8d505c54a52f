-- `render::turn` meets its contract: where the visit leads, and from a node that is done what is taken up.
-- Assumes nothing.
use Rattle.render.proofs.Turns.{turn_go, turn-done, done_ready}
use Rattle.render.proofs.turn.Goals as goal

pub take_up-requires : goal.take_up-requires
take_up-requires c =
    done_ready c.requires c.visit.ensures (rw c.in-Done.is at c.in_ok-on.was) c.visit.auto.events c.visit.auto.out c.visit.auto.work

pub returns-in-Go : goal.returns-in-Go
returns-in-Go c =
    turn_go c.requires c.visit.ensures (rw c.in-Go.is at c.in_ok-on.was)

pub returns-in-Done : goal.returns-in-Done
returns-in-Done c =
    turn-done c.requires c.visit.ensures (rw c.in-Done.is at c.in_ok-on.was) c.visit.auto.events c.visit.auto.out c.take_up.ensures
