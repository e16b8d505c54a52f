use native.Mathlib.Omega.{arith}
use Rattle.block.proofs.Loops.{left-start, left_asks, left_stop₁, left_stop₂, left-next, left_end}
use Rattle.build.proofs.Handed.{handed_on}
use Rattle.block.proofs.unions.Goals as goal

pub loop-split-init : goal.loop-split-init
loop-split-init c =
    let args = c.args in
    left-start c.requires.0 c.requires.1 args.affixes.nests.now args.n args.split c.requires.2 c.requires.3

pub alternative-requires : goal.alternative-requires
alternative-requires c =
    let args = c.args in
    left_asks c.requires.0 c.requires.1 args.affixes.nests.now args.n args.split (omega (arith, c.loop-split-test.true)) c.loop-split.invariant

pub returns-in_err-next : goal.returns-in_err-next
returns-in_err-next c =
    let args = c.args in
    rw (handed_on c.from_residual.result c.from_residual.ensures.1 c.in_err-next.was)
    (left_stop₁ c.requires.0 c.requires.1 args.affixes.nests.now args.n args.split (omega (arith, c.loop-split-test.true)) c.loop-split.invariant
    c.alternative.ensures c.in_err-next.was)

pub returns-in_err-c : goal.returns-in_err-c
returns-in_err-c c =
    let args = c.args in
    rw (handed_on c.from_residual-in_err-c.result c.from_residual-in_err-c.ensures.1 c.in_err-c.was)
    (left_stop₂ c.requires.0 c.requires.1 args.affixes.nests.now args.n args.split (omega (arith, c.loop-split-test.true)) c.loop-split.invariant
    c.alternative.ensures c.in_ok-next.was c.union.ensures c.in_err-c.was)

pub loop-split-preserved : goal.loop-split-preserved
loop-split-preserved c =
    let args = c.args in
    left-next c.requires.0 c.requires.1 args.affixes.nests.now args.n args.split (omega (arith, c.loop-split-test.true)) c.loop-split.invariant
    c.alternative.ensures c.in_ok-next.was c.union.ensures c.in_ok-c.was

pub returns : goal.returns
returns c =
    let args = c.args in
    left_end c.requires.0 c.requires.1 args.affixes.nests.now args.n args.split (omega (arith, c.loop-split-test.false)) c.loop-split.invariant
