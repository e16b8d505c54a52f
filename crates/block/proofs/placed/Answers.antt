-- `placed`: built on a table of its own, then laid over the lent one.
use native.Mathlib.Omega.{arith}
use Rattle.block.proofs.Places.{placed-stop, placed-short, placed_copies, placed_last}
use Rattle.build.proofs.Handed.{handed_on}
use Rattle.block.proofs.placed.Goals as goal

pub returns-in_err-d : goal.returns-in_err-d
returns-in_err-d c =
    rw (handed_on c.from_residual.result c.from_residual.ensures.1 c.in_err-d.was)
    (placed-stop c.requires.0 c.requires.1 c.args.affixes.nests.now c.requires.2 c.copy.ensures c.layouts.ensures
    c.in_err-d.was)

pub returns-then-table-nodes : goal.returns-then-table-nodes
returns-then-table-nodes c =
    placed-short c.requires.0 c.requires.1 c.args.affixes.nests.now c.requires.2 c.copy.ensures c.layouts.ensures
    c.in_ok-d.was c.if-table-nodes.true

pub overflow_sub-nodes : goal.overflow_sub-nodes
overflow_sub-nodes c =
    (placed_copies c.requires.0 c.requires.1 c.args.affixes.nests.now c.requires.2 c.copy.ensures c.layouts.ensures
    c.in_ok-d.was c.if-table-nodes.false).0

pub copy-requires-2 : goal.copy-requires-2
copy-requires-2 c =
    let x =
    placed_copies c.requires.0 c.requires.1 c.args.affixes.nests.now c.requires.2 c.copy.ensures c.layouts.ensures
    c.in_ok-d.was c.if-table-nodes.false in
    (omega arith, omega arith)

pub returns : goal.returns
returns c =
    placed_last c.requires.0 c.requires.1 c.args.affixes.nests.now c.requires.2 c.copy.ensures c.layouts.ensures
    c.in_ok-d.was c.if-table-nodes.false c.copy-2.ensures
