-- `softline`: a line and its group.
use mathlib.Core.Path.{refl}
use Rattle.build.specs.Parts.{line, softline}
use Rattle.build.proofs.Lines.{space_one}
use Rattle.build.proofs.Softlines.{soft-made}
use Rattle.build.proofs.Counts.softline.Goals as goal

pub returns-in_default : goal.returns-in_default
unfolding line softline
returns-in_default c =
    let args = c.args in
    soft-made args.self args.table.now args.text.now space_one _ _ _ c.broken_or_blank-made.ensures (rw c.in_default.is refl)

pub returns : goal.returns
unfolding line softline
returns c =
    let args = c.args in
    soft-made args.self args.table.now args.text.now space_one _ _ _ c.broken_or_blank-made.ensures (rw c.in-Ok.is c.group.ensures)
