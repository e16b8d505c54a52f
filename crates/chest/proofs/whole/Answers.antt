-- `chest::whole` meets its contract. Assumes nothing.
use Rattle.words.proofs.Chain.{new}
use Rattle.chest.specs.Documents.{sheet_doc}
use Rattle.chest.proofs.Sheets.{joined, named}
use Rattle.build.proofs.Handed.{handed}
use Rattle.chest.proofs.whole.Goals as goal

pub returns-in_err-c : goal.returns-in_err-c
returns-in_err-c c =
    λ v s.
    let is = handed c.from_residual.result c.from_residual.ensures.1 in
    rw is (named _ _ (joined _ _ _ _ c.in_err-c.was (c.add_lines.ensures v s)))

pub returns-in-Err : goal.returns-in-Err
returns-in-Err c =
    λ v s. (joined _ _ _ _ c.in_ok-c.was (c.add_lines.ensures v s)).count

pub returns-in-Ok : goal.returns-in-Ok
unfolding sheet_doc
returns-in-Ok c =
    λ v s.
    let j = (joined _ _ _ _ c.in_ok-c.was (c.add_lines.ensures v s)) in
    let b = c.footed.ensures _ j.shares j.is _ _ c.in-Ok.is j.valid in (b.valid, new b)
