-- `buffer::copy_block` meets its contract: the block has the run, whatever it had before, and then dst has the block.
-- Assumes nothing.
use native.Mathlib.Omega.{arith}
use Prim.Native.Nat.{ℕ}
use mathlib.Core.List.{List}
use lib.ListN.{length, take, drop, length-take, length-drop}
use Rattle.buffer.specs.Run.{put}
use Rattle.buffer.proofs.Put.{take_put}
use mathlib.Core.Path.{◌≡◌, ap, ◌∙◌}
use Rattle.buffer.proofs.copy_block.Goals as goal

pub returns : goal.returns
returns c =
    let a = c.args in
    let run = take 32 (drop a.from a.src.now) in
    let there : length run ≡ 32 = simp (length-take, length-drop) (omega arith) in
    c.copy-2.ensures
    ∙ ap (λ (l : List ℕ). put a.dst.now a.at (take 32 (drop 0 l))) c.copy.ensures
    ∙ ap (put a.dst.now a.at) (take_put _ 0 run 32 there (omega arith))
