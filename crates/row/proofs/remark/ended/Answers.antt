-- `row::remark::ended` meets its contract. Assumes nothing.
use native.Mathlib.Omega.{arith}
use lib.ListN.{length-take, length-drop}
use mathlib.Core.Path.{refl}
use Rattle.words.proofs.Chain.{gives, appends}
use Rattle.row.proofs.Remarks.{trim-within, ended-none, ended_some}
use Rattle.row.proofs.remark.ended.Goals as goal

pub trimmed-end-requires : goal.trimmed-end-requires
trimmed-end-requires c = tt

pub skip-from-requires : goal.skip-from-requires
skip-from-requires c = tt

pub append-requires : goal.append-requires
append-requires c = tt

pub returns-then-end-from : goal.returns-then-end-from
returns-then-end-from c =
    λ d s i.
    gives
    refl
    (ended-none d c.args.line.now c.args.from c.trimmed-end.result c.skip-from.result c.trimmed-end.ensures c.skip-from.ensures (omega arith))
    (appends i s.hardline c.append.ensures)

pub remarked-requires : goal.remarked-requires
remarked-requires c = simp (length-take, length-drop) (omega (arith, c.requires))

pub returns : goal.returns
returns c =
    λ d s i.
    gives
    refl
    (ended_some d c.args.line.now c.args.from c.trimmed-end.result c.skip-from.result c.trimmed-end.ensures c.skip-from.ensures (omega arith))
    (c.remarked.ensures d s i)

pub slice_bounds-remarked-end : goal.slice_bounds-remarked-end
slice_bounds-remarked-end c = omega (arith, trim-within c.args.line.now, c.trimmed-end.ensures)
