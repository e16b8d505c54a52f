-- `footer::comma` meets its contract. Assumes nothing.
use Rattle.words.proofs.Chain.{new, kept, after, refused, appends}
use Rattle.footer.proofs.comma.Goals as goal

pub leaf-requires : goal.leaf-requires
leaf-requires c = tt

pub returns-in_err-c : goal.returns-in_err-c
returns-in_err-c c = λ i. refused c.from_residual.result _ c.from_residual.ensures.1

pub append-requires : goal.append-requires
append-requires c = tt

pub returns : goal.returns
returns c =
    λ i. after c.leaf.ensures c.in_ok-c.was (λ b. appends (new b) (kept b i) c.append.ensures)
