-- `softline_`: a line and its group.
use mathlib.Core.Path.{refl}
use Rattle.build.specs.Parts.{line₀, softline₀}
use Rattle.build.proofs.Lines.{nil_one}
use Rattle.build.proofs.Softlines.{soft-made}
use Rattle.build.proofs.Counts.softline_.Goals as goal

pub returns-in_default : goal.returns-in_default
unfolding line₀ softline₀
returns-in_default c =
    let args = c.args in
    soft-made args.self args.table.now args.text.now nil_one _ _ _ c.broken_or_nil-made.ensures (rw c.in_default.is refl)

pub returns : goal.returns
unfolding line₀ softline₀
returns c =
    let args = c.args in
    soft-made args.self args.table.now args.text.now nil_one _ _ _ c.broken_or_nil-made.ensures (rw c.in-Ok.is c.group.ensures)
