-- `stays`: which nodes Group gives back.
use Rattle.build.proofs.Stays.{stays-nil, stays-group, stays-other, stays_unused, stays-past, stays_plain}
use Rattle.build.proofs.Counts.stays.Goals as goal

pub returns-then-k-eq-NIL : goal.returns-then-k-eq-NIL
returns-then-k-eq-NIL c =
    let args = c.args in
    stays-nil args.self args.table.now args.text.now args.n.0 c.word-k.ensures c.if-k-eq-NIL.true

pub returns-then-k-eq-GROUP : goal.returns-then-k-eq-GROUP
returns-then-k-eq-GROUP c =
    let args = c.args in
    stays-group args.self args.table.now args.text.now args.n.0 c.word-k.ensures c.if-k-eq-NIL.false c.if-k-eq-GROUP.true

pub returns-then-k-ne-TEXT : goal.returns-then-k-ne-TEXT
returns-then-k-ne-TEXT c =
    let args = c.args in
    stays-other args.self args.table.now args.text.now args.n.0 c.word-k.ensures c.if-k-eq-NIL.false c.if-k-eq-GROUP.false
    c.if-k-ne-TEXT.true

pub returns-then-self-end : goal.returns-then-self-end
returns-then-self-end c =
    let args = c.args in
    stays_unused args.self args.table.now args.text.now args.n.0 c.word-k.ensures c.if-k-eq-NIL.false c.if-k-eq-GROUP.false
    c.if-k-ne-TEXT.false c.word-from.ensures c.word-size.ensures c.if-self-end.true

pub returns-then-text-end : goal.returns-then-text-end
returns-then-text-end c =
    let args = c.args in
    stays-past args.self args.table.now args.text.now args.n.0 c.word-k.ensures c.if-k-eq-NIL.false c.if-k-eq-GROUP.false
    c.if-k-ne-TEXT.false c.word-from.ensures c.word-size.ensures c.if-text-end.true

pub returns : goal.returns
returns c =
    let args = c.args in
    stays_plain args.self args.table.now args.text.now args.n.0 c.word-k.ensures c.if-k-eq-NIL.false c.if-k-eq-GROUP.false
    c.if-k-ne-TEXT.false c.word-from.ensures c.word-size.ensures c.if-self-end.false c.if-text-end.false c.below_128.ensures
