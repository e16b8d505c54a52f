-- `nested`: by the amount, or as it is.
use Rattle.build.specs.Draft.{counted}
use Rattle.build.specs.Parts.{nest}
use borrow.Author.Tests.{lt-ltb}
use Rattle.build.proofs.Only.{nest-adds}
use Rattle.block.specs.Block.{nested}
use Rattle.block.proofs.Chain.{ran-made, ran-older, start-node}
use Rattle.block.proofs.parts.nested.Goals as goal

pub returns-then-flag : goal.returns-then-flag
unfolding nested
returns-then-flag c =
    let args = c.args in
    let way = args.block.way in
    let amount = args.block.amount.0 in
    rw c.if-flag.true
    (ran-made c.requires.0 (λ s. nest s args.n.0 amount way)
    (nest-adds (counted args.c args.table.now args.text.now) args.n.0 amount way
    (start-node c.requires.0 c.requires.2))
    (lt-ltb _ _ c.requires.2) c.requires.1.amount c.nest.ensures)

pub returns : goal.returns
unfolding nested
returns c =
    let args = c.args in
    rw c.if-flag.false (ran-older c.requires.0 args.n)
