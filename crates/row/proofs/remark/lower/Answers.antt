-- `row::remark::lower` meets its contract. Assumes nothing.
use Rattle.words.proofs.Chain.{new, kept, after, refused, nests, appends}
use Rattle.row.specs.Remark.{lower_doc}
use Rattle.row.proofs.remark.lower.Goals as goal

pub filled-requires : goal.filled-requires
filled-requires c = tt

pub returns-in_err-c : goal.returns-in_err-c
returns-in_err-c c = λ s. refused c.from_residual.result _ c.from_residual.ensures.1

pub append-requires : goal.append-requires
append-requires c = tt

pub returns-in_err-c-2 : goal.returns-in_err-c-2
returns-in_err-c-2 c = λ s. refused c.from_residual-in_err-c-2.result _ c.from_residual-in_err-c-2.ensures.1

pub nest-requires : goal.nest-requires
nest-requires c = tt

pub returns : goal.returns
unfolding lower_doc
returns c =
    λ s.
    after
    (c.filled.ensures s)
    c.in_ok-c.was
    (λ b. after (appends (kept b s.hardline) (new b) c.append.ensures) c.in_ok-c-2.was (λ q. nests (new q) 4 0 c.nest.ensures))
