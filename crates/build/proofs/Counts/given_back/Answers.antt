-- `given_back`: an older node by itself.
use mathlib.Core.Bool.{true}
use Rattle.build.proofs.Leaf.{given_back}
use Rattle.build.proofs.Counts.given_back.Goals as goal

pub returns : goal.returns
returns c =
    let args = c.args in
    given_back args.self args.table.now args.text.now args.present true args.n (rw c.of.ensures at c.older.ensures)
