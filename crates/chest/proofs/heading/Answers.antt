-- `chest::heading` meets its contract. Assumes nothing.
use Rattle.words.proofs.Chain.{new, kept, after, refused, appends}
use Rattle.chest.proofs.heading.Goals as goal

pub filled-requires : goal.filled-requires
filled-requires c = tt

pub returns-in_err-c : goal.returns-in_err-c
returns-in_err-c c = λ s. refused c.from_residual.result _ c.from_residual.ensures.1

pub append-requires : goal.append-requires
append-requires c = tt

pub returns : goal.returns
returns c =
    λ s. after (c.filled.ensures s) c.in_ok-c.was (λ b. appends (new b) (kept b s.hardline) c.append.ensures)
