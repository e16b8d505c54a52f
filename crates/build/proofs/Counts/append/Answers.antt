-- `append`: a Nil gives the other.
use Rattle.build.specs.Draft.{counted}
use Rattle.build.proofs.Leaf.{append_gives-right, append_gives-left, append_joins}
use Rattle.build.proofs.Counts.append.Goals as goal

pub returns-then-is_nil : goal.returns-then-is_nil
unfolding counted
returns-then-is_nil c =
    let args = c.args in
    append_gives-right args.self args.table.now args.text.now c.has_both-present.ensures args.a.0 args.b.0
    c.is_nil.ensures c.if-is_nil.true c.given_back.ensures

pub returns-then-is_nil-2 : goal.returns-then-is_nil-2
unfolding counted
returns-then-is_nil-2 c =
    let args = c.args in
    append_gives-left args.self args.table.now args.text.now c.has_both-present.ensures args.a.0 args.b.0
    c.is_nil.ensures c.if-is_nil.false c.is_nil-2.ensures c.if-is_nil-2.true c.given_back-then-is_nil-2.ensures

pub returns : goal.returns
unfolding counted
returns c =
    let args = c.args in
    append_joins args.self args.table.now args.text.now c.has_both-present.ensures args.a.0 args.b.0
    c.is_nil.ensures c.if-is_nil.false c.is_nil-2.ensures c.if-is_nil-2.false (rw c.words_of.ensures at c.one.ensures)
