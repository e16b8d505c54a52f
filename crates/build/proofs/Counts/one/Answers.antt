-- `one`: one node by itself.
use mathlib.Core.Bool.{true}
use Rattle.build.proofs.Leaf.{node_alone}
use Rattle.build.proofs.Counts.one.Goals as goal

pub returns : goal.returns
returns c =
    let args = c.args in
    let words = args.words in
    node_alone args.self args.table.now args.text.now args.present true words.kind words.a words.b words.c
    (rw c.of.ensures at c.node.ensures)
