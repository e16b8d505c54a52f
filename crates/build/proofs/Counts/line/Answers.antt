-- `line`: three nodes.
use Rattle.build.specs.Parts.{line}
use Rattle.build.proofs.Lines.{space_one, line_alone}
use Rattle.build.proofs.Counts.line.Goals as goal

pub returns : goal.returns
unfolding line
returns c =
    let args = c.args in
    line_alone args.self args.table.now args.text.now space_one c.broken_or_blank.ensures
