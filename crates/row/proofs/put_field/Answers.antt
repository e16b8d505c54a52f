-- `row::put_field` meets its contract. Assumes nothing.
use native.Mathlib.Omega.{arith}
use Rattle.buffer.proofs.Placing.{placed-length}
use Rattle.row.proofs.Columns.{field-adds}
use Rattle.row.proofs.put_field.Goals as goal

pub part_end-size-requires : goal.part_end-size-requires
part_end-size-requires c = tt

pub missing-blanks-requires : goal.missing-blanks-requires
missing-blanks-requires c = tt

pub front-requires : goal.front-requires
front-requires c = tt

pub put-requires : goal.put-requires
put-requires c = (placed-length c.put-at.ensures (omega arith)).1

pub returns : goal.returns
returns c =
    field-adds
    _
    _
    _
    c.part_end-size.ensures
    c.missing-blanks.ensures
    (omega arith)
    c.further-at.ensures
    c.front.ensures
    c.put-at.ensures
    c.put.ensures
