-- `group`: given back or wrapped.
use Rattle.build.proofs.Leaf.{group_gives-back, group_groups}
use Rattle.build.proofs.Counts.group.Goals as goal

pub returns-then-stays : goal.returns-then-stays
returns-then-stays c =
    let args = c.args in
    group_gives-back args.self args.table.now args.text.now c.has-present.ensures args.n.0 c.stays.ensures
    c.if-stays.true c.given_back.ensures

pub returns : goal.returns
returns c =
    let args = c.args in
    group_groups args.self args.table.now args.text.now c.has-present.ensures args.n.0 c.stays.ensures
    c.if-stays.false (rw c.words_of.ensures at c.one.ensures)
