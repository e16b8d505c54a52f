-- `buffer::newline` meets its contract: the line feed, and behind it the blanks. Assumes nothing.
use native.Mathlib.Omega.{arith}
use mathlib.Core.Path.{ap, ◌∙◌}
use mathlib.Core.List.{◌∷◌}
use Prim.Native.Nat.{◌+◌}
use lib.ListN.{length, replicate, length-set, length-replicate}
use Rattle.buffer.proofs.Put.{length-put, put-cons}
use Rattle.buffer.proofs.newline.Goals as goal

pub fill_blanks-requires : goal.fill_blanks-requires
fill_blanks-requires c = simp length-set (omega arith)

pub shape_of-dst : goal.shape_of-dst
shape_of-dst c =
    let a = c.args in
    ap length (c.fill_blanks.ensures ∙ put-cons a.dst.now a.at 10 (replicate a.n 32) (omega arith))
    ∙ length-put a.dst.now a.at (10 ∷ replicate a.n 32) (a.n + 1) (simp length-replicate (omega arith)) (omega arith)

pub returns : goal.returns
returns c =
    let a = c.args in
    c.fill_blanks.ensures ∙ put-cons a.dst.now a.at 10 (replicate a.n 32) (omega arith)
