-- `blanks`: so many of the array.
use Rattle.build.proofs.Texts.{blanks-made}
use Rattle.build.proofs.Counts.blanks.Goals as goal

pub returns : goal.returns
returns c =
    let args = c.args in
    blanks-made args.by.0 c.requires args.self args.table.now args.text.now c.from-columns.ensures
    c.text.ensures
