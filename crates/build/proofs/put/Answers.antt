-- `put`: four words at a node's place.
use Prim.Native.Nat.{◌*◌}
use Rattle.build.proofs.Stores.{words-put}
use Rattle.build.proofs.put.Goals as goal

pub returns : goal.returns
returns c =
    let words = c.args.words in
    words-put c.args.table.now (c.args.n * 4) words.kind words.a words.b words.c c.requires
