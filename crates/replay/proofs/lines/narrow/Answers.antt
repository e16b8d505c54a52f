use Rattle.std.proofs.Common.{ℕ, ◌%◌, List, get_or, set, sym, refl, ap, ◌∙◌, arith, length-set}
use Rattle.buffer.proofs.Put.{put-none}
use Rattle.replay.proofs.Storing.{narrow-more, narrow-all}
use Rattle.replay.proofs.lines.narrow.Goals as goal

pub loop-i-init : goal.loop-i-init
loop-i-init c = (sym (put-none c.args.bytes.now 0), refl)

pub loop-i-preserved : goal.loop-i-preserved
loop-i-preserved c =
    let L = c.loop-i in
    let a = c.args in (
      ap (λ (l : List ℕ). set l L.i (get_or a.wide.now L.i 0 % 256)) L.invariant.0
          ∙ narrow-more a.bytes.now a.wide.now L.i (omega (arith, L.invariant.1, c.loop-i-test.true)) (omega (arith, c.loop-i-test.true)),
      simp length-set L.invariant.1,
    )

pub returns : goal.returns
returns c =
    let L = c.loop-i in
    let a = c.args in
    L.invariant.0 ∙ narrow-all a.bytes.now a.wide.now L.i (omega (arith, c.loop-i-test.false, L.auto.i-end, c.min-i-end.ensures))
