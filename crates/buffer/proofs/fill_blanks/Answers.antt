-- `buffer::fill_blanks` meets its contract. Assumes nothing.
use Rattle.std.proofs.Common.{◌≡◌, ◌∙◌, ap, ℕ, ◌+◌, ◌-◌, ◌*◌, ◌/◌, replicate, arith}
use Rattle.buffer.specs.Run.{put}
use Rattle.buffer.proofs.Put.{fill_none, fill_part, fill-run}
use Rattle.buffer.proofs.fill_blanks.Goals as goal

pub loop-k-init : goal.loop-k-init
loop-k-init c = fill_none c.args.dst.now c.args.at 32

pub loop-k-preserved : goal.loop-k-preserved
loop-k-preserved c =
    let L = c.loop-k in
    let a = c.args in
    let next : (L.k + 1) * 32 ≡ L.k * 32 + 32 = omega arith in
    rw next (fill_part a.dst.now a.at 32 (L.k * 32) 32 L.dst (omega arith) L.invariant 32 _ (omega arith) c.copy.ensures)

pub returns : goal.returns
returns c =
    let L = c.loop-k in
    let a = c.args in
    let done = a.n / 32 * 32 in
    let here : L.k * 32 ≡ done = omega arith in
    let all : done + (a.n - done) ≡ a.n = omega arith in
    c.fill.ensures ∙ (fill-run a.dst.now a.at 32 done (a.n - done) L.dst (omega arith) (rw here at L.invariant)).0 ∙ ap (λ (k : ℕ). put a.dst.now a.at (replicate k 32)) all
