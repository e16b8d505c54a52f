-- `append::append` meets its contract. Assumes nothing.
use Rattle.append.proofs.Appending.{kept-over, over, placed}
use Rattle.append.proofs.append.Goals as goal

pub returns-then-room-at : goal.returns-then-room-at
returns-then-room-at c = kept-over _ _ _ c.if-room-at.true

pub returns-then-room-at-2 : goal.returns-then-room-at-2
returns-then-room-at-2 c = over _ _ _ c.if-room-at.false c.if-room-at-2.true

pub returns : goal.returns
returns c =
    placed _ _ _ c.if-room-at.false c.if-room-at-2.false _ c.copy.ensures
