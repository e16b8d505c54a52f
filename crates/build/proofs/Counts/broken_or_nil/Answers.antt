-- `broken_or_nil`, part by part.
use mathlib.Core.Path.{refl}
use Rattle.build.specs.Parts.{line₀}
use Rattle.build.proofs.Lines.{nil_one, line_refused, line_made_lem}
use Rattle.build.proofs.Counts.broken_or_nil.Goals as goal

pub returns-in_default : goal.returns-in_default
unfolding line₀
returns-in_default c =
    let args = c.args in
    let first = rw (c.of.ensures, c.words_of.ensures) at c.node-made.ensures in
    line_refused args.self args.table.now args.text.now nil_one args.nodes c.requires first c.in_default.is

pub returns-in_default-made : goal.returns-in_default-made
unfolding line₀
returns-in_default-made c =
    let args = c.args in
    let first = rw (c.of.ensures, c.words_of.ensures) at c.node-made.ensures in
    line_made_lem args.self args.table.now args.text.now nil_one args.nodes c.requires first c.in-Ok.is _ _ _ c.nil-made.ensures (rw c.in_default-made.is refl)

pub returns : goal.returns
unfolding line₀
returns c =
    let args = c.args in
    let first = rw (c.of.ensures, c.words_of.ensures) at c.node-made.ensures in
    line_made_lem args.self args.table.now args.text.now nil_one args.nodes c.requires first c.in-Ok.is _ _ _ c.nil-made.ensures
    (rw c.in-Ok-made.is c.flat_alt.ensures)
