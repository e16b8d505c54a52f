-- `tail`, part by part.
use Rattle.block.proofs.Groups.{tail_stop₁, tail_stop₂, tail_last}
use Rattle.build.proofs.Handed.{handed_on}
use Rattle.block.proofs.affixes.tail.Goals as goal

pub returns-in_err-c : goal.returns-in_err-c
returns-in_err-c c =
    let args = c.args in
    rw (handed_on c.from_residual.result c.from_residual.ensures.1 c.in_err-c.was)
    (tail_stop₁ c.requires.0 c.requires.1 c.requires.2 args.before.now c.requires.3 c.list.ensures
    c.in_err-c.was)

pub returns-in_err-c-2 : goal.returns-in_err-c-2
returns-in_err-c-2 c =
    let args = c.args in
    rw (handed_on c.from_residual-in_err-c-2.result c.from_residual-in_err-c-2.ensures.1 c.in_err-c-2.was)
    (tail_stop₂ c.requires.0 c.requires.1 c.requires.2 args.before.now c.requires.3 c.list.ensures
    c.in_ok-c.was c.append.ensures c.in_err-c-2.was)

pub returns : goal.returns
returns c =
    let args = c.args in
    tail_last c.requires.0 c.requires.1 c.requires.2 args.before.now c.requires.3 c.list.ensures
    c.in_ok-c.was c.append.ensures c.in_ok-c-2.was c.group.ensures
