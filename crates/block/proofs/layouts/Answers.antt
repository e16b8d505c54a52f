-- `layouts`, part by part.
use Rattle.block.proofs.Starts.{start_stop₁, start_stop₂, start_stop₃, start_asks₄, start_stop₄, start_asks₅, start_last}
use Rattle.build.proofs.Handed.{handed_on}
use Rattle.block.proofs.layouts.Goals as goal

pub returns-in_err-c : goal.returns-in_err-c
returns-in_err-c c =
    rw (handed_on c.from_residual.result c.from_residual.ensures.1 c.in_err-c.was)
    (start_stop₁ c.requires.0 c.requires.1 c.args.affixes.nests.now c.nil.ensures c.in_err-c.was)

pub returns-in_err-c-2 : goal.returns-in_err-c-2
returns-in_err-c-2 c =
    rw (handed_on c.from_residual-in_err-c-2.result c.from_residual-in_err-c-2.ensures.1 c.in_err-c-2.was)
    (start_stop₂ c.requires.0 c.requires.1 c.args.affixes.nests.now c.nil.ensures c.in_ok-c.was c.fail.ensures
    c.in_err-c-2.was)

pub returns-in_err-c-3 : goal.returns-in_err-c-3
returns-in_err-c-3 c =
    rw (handed_on c.from_residual-in_err-c-3.result c.from_residual-in_err-c-3.ensures.1 c.in_err-c-3.was)
    (start_stop₃ c.requires.0 c.requires.1 c.args.affixes.nests.now c.nil.ensures c.in_ok-c.was c.fail.ensures
    c.in_ok-c-2.was c.flat_alt.ensures c.in_err-c-3.was)

pub alternative-requires : goal.alternative-requires
alternative-requires c =
    start_asks₄ c.requires.0 c.requires.1 c.args.affixes.nests.now c.nil.ensures c.in_ok-c.was c.fail.ensures
    c.in_ok-c-2.was c.flat_alt.ensures c.in_ok-c-3.was

pub returns-in_err-c-4 : goal.returns-in_err-c-4
returns-in_err-c-4 c =
    rw (handed_on c.from_residual-in_err-c-4.result c.from_residual-in_err-c-4.ensures.1 c.in_err-c-4.was)
    (start_stop₄ c.requires.0 c.requires.1 c.args.affixes.nests.now c.nil.ensures c.in_ok-c.was c.fail.ensures
    c.in_ok-c-2.was c.flat_alt.ensures c.in_ok-c-3.was c.alternative.ensures
    c.in_err-c-4.was)

pub unions-requires : goal.unions-requires
unions-requires c =
    start_asks₅ c.requires.0 c.requires.1 c.args.affixes.nests.now c.nil.ensures c.in_ok-c.was c.fail.ensures
    c.in_ok-c-2.was c.flat_alt.ensures c.in_ok-c-3.was c.alternative.ensures
    c.in_ok-c-4.was

pub returns : goal.returns
returns c =
    start_last c.requires.0 c.requires.1 c.args.affixes.nests.now c.nil.ensures c.in_ok-c.was c.fail.ensures
    c.in_ok-c-2.was c.flat_alt.ensures c.in_ok-c-3.was c.alternative.ensures
    c.in_ok-c-4.was c.unions.ensures
