-- `node`: one node, with which so many are asked for.
use Rattle.build.proofs.Leaf.{node-room, node_granted}
use Rattle.build.proofs.Counts.node.Goals as goal

pub add-requires : goal.add-requires
add-requires c =
    let args = c.args in
    node-room args.self args.table.now args.text.now args.asks args.words c.requires c.in_ok-ask.ensures

pub returns : goal.returns
returns c =
    let args = c.args in
    node_granted args.self args.table.now args.text.now args.asks args.words c.requires c.in_ok-ask.ensures
    c.add.ensures.0 c.add.ensures.1
