-- `guarded`: joined to the guard, or as it is.
use Rattle.block.specs.Affixes.{guarded}
use Rattle.block.proofs.Chain.{ran-older, ran_append}
use Rattle.block.proofs.affixes.guarded.Goals as goal

pub returns-then-asked : goal.returns-then-asked
unfolding guarded
returns-then-asked c =
    let args = c.args in
    rw c.if-asked.true
    (ran_append c.requires.0 args.n.0 args.shared.guard.0 c.requires.2 c.requires.1.guard c.append.ensures)

pub returns : goal.returns
unfolding guarded
returns c =
    let args = c.args in
    rw c.if-asked.false (ran-older c.requires.0 args.n)
