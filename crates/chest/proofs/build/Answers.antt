-- `chest::build` meets its contract. Assumes nothing.
use Rattle.chest.proofs.Sheets.{begun}
use Rattle.chest.proofs.build.Goals as goal

pub returns-in-Ok : goal.returns-in-Ok
returns-in-Ok c =
    let s = begun _ _ c.in-Ok.is c.share.ensures.started in
    c.whole.ensures s.0 s.1
