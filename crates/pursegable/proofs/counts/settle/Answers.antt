-- `settle` meets its contract: a node's counts go into the caller's words, a refusal leaves them.
-- Assumes nothing.
use mathlib.Core.Path.{sym, ap, ◌∙◌}
use Rattle.build.specs.Outcome.{Made}
use Rattle.pursegable.specs.Building.{answer_of, counts_after}
use Rattle.pursegable.proofs.Making.{counts-set}
use Rattle.pursegable.proofs.counts.settle.Goals as goal

pub returns-in-Ok : goal.returns-in-Ok
returns-in-Ok c =
    let counts = c.args.counts.now in
    let node = c.in-Ok.is in
    (sym (ap answer_of node), counts-set counts _ _ _ c.requires ∙ sym (ap (λ (m : Made). counts_after m counts) node))
