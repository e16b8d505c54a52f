-- `line_`: three nodes.
use Rattle.build.specs.Parts.{line₀}
use Rattle.build.proofs.Lines.{nil_one, line_alone}
use Rattle.build.proofs.Counts.line_.Goals as goal

pub returns : goal.returns
unfolding line₀
returns c =
    let args = c.args in
    line_alone args.self args.table.now args.text.now nil_one c.broken_or_nil.ensures
