-- `row::put_row` meets its contract. Assumes nothing.
use native.Mathlib.Omega.{arith}
use Rattle.buffer.proofs.Placing.{placed-length}
use Rattle.row.proofs.Columns.{fields-add}
use Rattle.row.proofs.put_row.Goals as goal

pub part_end-requires : goal.part_end-requires
part_end-requires c = tt

pub front-note-requires : goal.front-note-requires
front-note-requires c = tt

pub columns-requires : goal.columns-requires
columns-requires c = tt

pub missing-blanks-requires : goal.missing-blanks-requires
missing-blanks-requires c = tt

pub further-at-requires : goal.further-at-requires
further-at-requires c = (placed-length c.put-at.ensures (omega arith)).1

pub behind-requires : goal.behind-requires
behind-requires c = tt

pub put_field-at-requires : goal.put_field-at-requires
put_field-at-requires c =
    omega (arith, c.further-at.ensures, (placed-length c.put-at.ensures (omega arith)).1)

pub behind-requires-2 : goal.behind-requires-2
behind-requires-2 c = tt

pub returns : goal.returns
returns c =
    fields-add
    _
    _
    c.part_end.ensures
    c.front-note.ensures
    c.columns.ensures
    c.missing-blanks.ensures
    c.put-at.ensures
    c.further-at.ensures
    c.behind.ensures
    c.put_field-at.auto.out
    c.put_field-at.ensures.0
    c.behind-2.ensures
    c.put_field.ensures.0
