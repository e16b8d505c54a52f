-- `pursegable::pursegable_why` meets its contract: the covered call at the limit that the report allows, then the report.
-- Assumes nothing.
use mathlib.Core.Path.{ap, ◌∙◌}
use lib.ListN.{length}
use Rattle.pursegable.specs.Exported.{told}
use Rattle.layout.specs.Called.{lent}
use Rattle.pursegable.proofs.WhyExports.{why_exported}
use Rattle.pursegable.proofs.asking.pursegable_why.Goals as goal

pub returns : goal.returns
returns c =
    let a = c.args in
    why_exported
    (lent a.table.now a.text.now a.width a.limit a.out.now a.events.now a.work.now)
    (length a.events.now) a.step (length a.report.now) _ _
    c.limit_for-limit.ensures c.why-answer.ensures c.from-w.ensures (c.tell.ensures ∙ ap (λ words. told words (length a.report.now)) c.five_why.ensures)
