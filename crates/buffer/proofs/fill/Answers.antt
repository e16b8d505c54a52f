-- `buffer::fill` meets its contract. Assumes nothing.
use Rattle.std.proofs.Common.{◌≡◌, ◌∙◌, ap, ℕ, ◌+◌, ◌-◌, take, drop, length, replicate, arith}
use lib.ListN.{length-replicate, length-drop}
use lib.Seq.{length-take-le}
use borrow.Rule.Slice.PartMut.{put_mid}
use Rattle.buffer.proofs.Put.{put-part, part-is, fill_next, fill-done}
use Rattle.buffer.proofs.fill.Goals as goal

pub loop-x-preserved : goal.loop-x-preserved
loop-x-preserved g c = fill_next _ _ _ _ c.loop-x-test.true c.loop-x.invariant

pub returns : goal.returns
returns g c =
    let a = c.args in
    let part = take (a.at + a.n - a.at) (drop a.at a.dst.now) in
    let size : length part ≡ a.n = ap length (part-is a.dst.now a.at a.n) ∙ length-take-le a.n (drop a.at a.dst.now) (omega (arith, length-drop a.at a.dst.now)) in
    let e = fill-done part c.loop-x.x-index a.v c.loop-x.x-items (omega arith) c.loop-x.invariant ∙ ap (λ (n : ℕ). replicate n a.v) size in
    ap (λ l. put_mid a.at (a.at + a.n - a.at) a.dst.now l) e ∙ put-part a.dst.now a.at a.n (replicate a.n a.v) (omega arith) (length-replicate a.n a.v)
