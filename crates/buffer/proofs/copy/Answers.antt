-- `buffer::copy` meets its contract. Assumes nothing.
use Rattle.std.proofs.Common.{◌≡◌, ◌∙◌, ◌+◌, sym, ap, arith, ℕ, take, drop}
use lib.ListN.{set}
use Rattle.buffer.specs.Run.{put}
use Rattle.buffer.proofs.Put.{put-none, copy_more}
use Rattle.buffer.proofs.copy.Goals as goal

pub loop-i-init : goal.loop-i-init
loop-i-init g c = sym (put-none c.args.dst.now c.args.at)

pub loop-i-preserved : goal.loop-i-preserved
loop-i-preserved g c =
    let a = c.args in
    let i = c.loop-i.i in
    let src = a.src.now in
    let x = c.index-src-from.result in
    ap (λ l. set l (a.at + i) x) c.loop-i.invariant
    ∙ ap (λ y. set (put a.dst.now a.at (take i (drop a.from src))) (a.at + i) y) c.index-src-from.is
    ∙ copy_more a.dst.now a.at src a.from x i (omega arith) (omega arith)

pub returns : goal.returns
returns g c =
    let a = c.args in
    let all : c.loop-i.i ≡ a.n = omega arith in
    c.loop-i.invariant ∙ ap (λ (m : ℕ). put a.dst.now a.at (take m (drop a.from a.src.now))) all
