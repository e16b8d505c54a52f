-- `buffer::copy_over` meets its contract: of a whole block its first n bytes, or the n bytes alone.
-- Assumes nothing.
use native.Mathlib.Omega.{arith}
use Prim.Native.Nat.{◌-◌, ◌≤◌}
use lib.ListN.{length}
use Rattle.buffer.proofs.Put.{copied-over}
use Rattle.buffer.proofs.copy_over.Goals as goal

pub copy_block-requires : goal.copy_block-requires
copy_block-requires c =
    let a = c.args in
    let in_src : 32 ≤ length a.src.now - a.from = omega arith in
    let in_dst : 32 ≤ length a.dst.now - a.at = omega arith in
    (omega arith, omega arith)

pub returns-then-dst-at-ge-BYTES : goal.returns-then-dst-at-ge-BYTES
returns-then-dst-at-ge-BYTES c =
    let a = c.args in
    let in_src : 32 ≤ length a.src.now - a.from = omega arith in
    let in_dst : 32 ≤ length a.dst.now - a.at = omega arith in
    copied-over a.dst.now a.at a.src.now a.from 32 a.n _ (omega arith) (omega arith) (omega arith) c.copy_block.ensures

pub returns : goal.returns
returns c =
    let a = c.args in
    copied-over a.dst.now a.at a.src.now a.from a.n a.n _ (omega arith) (omega arith) (omega arith) c.copy.ensures
