-- `head`, part by part.
use Rattle.block.proofs.Groups.{head_stop₁, head_asks₂, head_stop₂, head_last}
use Rattle.build.proofs.Handed.{handed_on}
use Rattle.block.proofs.affixes.head.Goals as goal

pub returns-in_err-c : goal.returns-in_err-c
returns-in_err-c c =
    let args = c.args in
    rw (handed_on c.from_residual.result c.from_residual.ensures.1 c.in_err-c.was)
    (head_stop₁ c.requires.0 c.requires.1 args.before.now c.requires.2 c.list.ensures c.in_err-c.was)

pub guarded-requires : goal.guarded-requires
guarded-requires c =
    let args = c.args in
    head_asks₂ c.requires.0 c.requires.1 args.before.now c.requires.2 c.list.ensures c.in_ok-c.was

pub returns-in_err-c-2 : goal.returns-in_err-c-2
returns-in_err-c-2 c =
    let args = c.args in
    rw (handed_on c.from_residual-in_err-c-2.result c.from_residual-in_err-c-2.ensures.1 c.in_err-c-2.was)
    (head_stop₂ c.requires.0 c.requires.1 args.before.now c.requires.2 c.list.ensures c.in_ok-c.was
    c.guarded.ensures c.in_err-c-2.was)

pub returns : goal.returns
returns c =
    let args = c.args in
    head_last c.requires.0 c.requires.1 args.before.now c.requires.2 c.list.ensures c.in_ok-c.was
    c.guarded.ensures c.in_ok-c-2.was c.group.ensures
