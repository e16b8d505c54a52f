-- `separated_adds`: one less than is joined.
use native.Mathlib.Omega.{arith}
use Prim.Native.Nat.{◌-◌, ◌*◌}
use lib.ListN.{length, take}
use Rattle.build.proofs.Separated.{solid_bound}
use Rattle.build.proofs.Counts.separated_adds.Goals as goal

pub overflow_add-solid : goal.overflow_add-solid
overflow_add-solid c =
    let args = c.args in
    let b = solid_bound (take (args.self.nodes * 4) args.table.now) args.separator.0 args.nodes.now (length args.nodes.now - 1) in
    omega (arith, c.solid.ensures, c.separators.ensures, c.well_formed)
