-- The call over records at the limit that the report allows, then the report.
use Rattle.std.proofs.Common.{ap, ◌∙◌, length}
use Rattle.events.specs.Called.{lent, as_records}
use Rattle.pursegable.specs.Exported.{told}
use Rattle.pursegable.proofs.Answering.{exported}
use Rattle.pursegable.proofs.pursegable_layout.Goals as goal

pub returns : goal.returns
returns c =
    let a = c.args in
    exported as_records
    (lent a.table.now a.text.now a.width a.limit a.out.now a.events.now a.work.now)
    (length a.report.now) (length a.events.now) _
    c.limit_for-limit.ensures (rw c.from-r.ensures c.layout-answer.ensures) (c.tell.ensures ∙ ap (λ words. told words (length c.args.report.now)) c.five_of.ensures)
