-- `indent`, part by part.
use mathlib.Core.Path.{refl}
use Rattle.build.proofs.Handed.{handed_outcome}
use Rattle.build.proofs.Indents.{indent_by, indent-refused, indent-made}
use Rattle.build.proofs.Counts.indent.Goals as goal

pub returns-in_err-ask_indent : goal.returns-in_err-ask_indent
returns-in_err-ask_indent c =
    let args = c.args in
    handed_outcome c.from_residual.result c.from_residual.ensures.1
    (indent-refused args.self args.table.now args.text.now args.n.0 args.by.0 c.in_err-ask_indent.ensures)

pub blanks-made-requires : goal.blanks-made-requires
blanks-made-requires c =
    let args = c.args in
    indent_by args.self args.table.now args.text.now args.n.0 args.by.0 c.in_ok-ask_indent.ensures

pub returns-in_default : goal.returns-in_default
returns-in_default c =
    let args = c.args in
    let p = c.in_default.is in
    indent-made args.self args.table.now args.text.now args.n.0 args.by.0 c.in_ok-ask_indent.ensures _ _ _ c.blanks-made.ensures
    c.blanks-made.result c.blanks-made.new.table c.blanks-made.new.text (rw p refl) (rw p refl)

pub returns-in_default-made : goal.returns-in_default-made
returns-in_default-made c =
    let args = c.args in
    indent-made args.self args.table.now args.text.now args.n.0 args.by.0 c.in_ok-ask_indent.ensures _ _ _ c.blanks-made.ensures
    c.append-made.result c.append-made.new.table c.blanks-made.new.text (rw c.in-Ok.is c.append-made.ensures) (rw c.in_default-made.is refl)

pub returns : goal.returns
returns c =
    let args = c.args in
    indent-made args.self args.table.now args.text.now args.n.0 args.by.0 c.in_ok-ask_indent.ensures _ _ _ c.blanks-made.ensures
    c.append-made.result c.append-made.new.table c.blanks-made.new.text (rw c.in-Ok.is c.append-made.ensures) (rw c.in-Ok-made.is c.hang.ensures)
