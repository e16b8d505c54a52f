-- The call over words at the limit that the report allows, then the report.
use Rattle.std.proofs.Common.{ap, ◌∙◌, length}
use Rattle.layout.specs.Called.{lent, as_words}
use Rattle.pursegable.specs.Exported.{told}
use Rattle.pursegable.proofs.Answering.{exported}
use Rattle.pursegable.proofs.pursegable_layout_words.Goals as goal

pub returns : goal.returns
returns c =
    let a = c.args in
    exported as_words
    (lent a.table.now a.text.now a.width a.limit a.out.now a.events.now a.work.now)
    (length a.report.now) (length a.events.now) _
    c.limit_for-limit.ensures (rw c.from-r.ensures c.layout-answer.ensures) (c.tell.ensures ∙ ap (λ words. told words (length c.args.report.now)) c.five_of.ensures)
