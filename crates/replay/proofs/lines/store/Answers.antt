-- `replay::lines::store` meets its contract: as often as there is room for, or all of it. Assumes nothing.
use Rattle.replay.proofs.Storing.{store-some, store-all}
use Rattle.replay.proofs.lines.store.Goals as goal

pub returns-then-room-times : goal.returns-then-room-times
returns-then-room-times c =
    let a = c.args in
    store-some a.out.now a.count a.times a.v c.requires _ c.if-room-times.true c.fill.ensures

pub returns : goal.returns
returns c =
    let a = c.args in
    store-all a.out.now a.count a.times a.v c.requires _ c.if-room-times.false c.fill-2.ensures
