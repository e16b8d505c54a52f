-- `chest::footed` meets its contract. Assumes nothing.
use Rattle.words.proofs.Chain.{new, kept, after, refused, appends}
use Rattle.chest.proofs.footed.Goals as goal

pub footer-requires : goal.footer-requires
footer-requires c = tt

pub returns-in_err-c : goal.returns-in_err-c
returns-in_err-c c = λ d s i. refused c.from_residual.result _ c.from_residual.ensures.1

pub append-requires : goal.append-requires
append-requires c = tt

pub returns : goal.returns
returns c =
    λ d s i. after (c.footer.ensures s) c.in_ok-c.was (λ b. appends (kept b i) (new b) c.append.ensures)
