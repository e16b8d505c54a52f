-- `core`, part by part.
use Rattle.block.proofs.Steps.{core_stop₁, core_asks₂, core_stop₂, core_asks₃, core_stop₃, core_last}
use Rattle.build.proofs.Handed.{handed_on}
use Rattle.block.proofs.parts.core.Goals as goal

pub returns-in_err-c : goal.returns-in_err-c
returns-in_err-c c =
    let args = c.args in
    rw (handed_on c.from_residual.result c.from_residual.ensures.1 c.in_err-c.was)
    (core_stop₁ c.requires.0 c.requires.1 c.requires.2 args.asked args.after.now c.requires.3 c.guarded.ensures
    c.in_err-c.was)

pub nested-requires : goal.nested-requires
nested-requires c =
    let args = c.args in
    core_asks₂ c.requires.0 c.requires.1 c.requires.2 args.asked args.after.now c.requires.3 c.guarded.ensures
    c.in_ok-c.was

pub returns-in_err-c-2 : goal.returns-in_err-c-2
returns-in_err-c-2 c =
    let args = c.args in
    rw (handed_on c.from_residual-in_err-c-2.result c.from_residual-in_err-c-2.ensures.1 c.in_err-c-2.was)
    (core_stop₂ c.requires.0 c.requires.1 c.requires.2 args.asked args.after.now c.requires.3 c.guarded.ensures
    c.in_ok-c.was c.nested.ensures c.in_err-c-2.was)

pub list-requires : goal.list-requires
list-requires c =
    let args = c.args in
    core_asks₃ c.requires.0 c.requires.1 c.requires.2 args.asked args.after.now c.requires.3 c.guarded.ensures
    c.in_ok-c.was c.nested.ensures c.in_ok-c-2.was

pub returns-in_err-c-3 : goal.returns-in_err-c-3
returns-in_err-c-3 c =
    let args = c.args in
    rw (handed_on c.from_residual-in_err-c-3.result c.from_residual-in_err-c-3.ensures.1 c.in_err-c-3.was)
    (core_stop₃ c.requires.0 c.requires.1 c.requires.2 args.asked args.after.now c.requires.3 c.guarded.ensures
    c.in_ok-c.was c.nested.ensures c.in_ok-c-2.was c.list.ensures
    c.in_err-c-3.was)

pub returns : goal.returns
returns c =
    let args = c.args in
    core_last c.requires.0 c.requires.1 c.requires.2 args.asked args.after.now c.requires.3 c.guarded.ensures
    c.in_ok-c.was c.nested.ensures c.in_ok-c-2.was c.list.ensures
    c.in_ok-c-3.was c.append.ensures
