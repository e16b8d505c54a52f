use Rattle.std.proofs.Common.{◌≡◌, ℕ, ◌+◌, arith, sym, ap, ◌∙◌, length, drop}
use Rattle.buffer.specs.Parts.{lines}
use Rattle.buffer.proofs.ByLine.{line_at}
use Rattle.strip.proofs.print_all.Goals as goal

pub overflow_add-at-in-loop-line : goal.overflow_add-at-in-loop-line
overflow_add-at-in-loop-line g c =
    let line = line_at c.args.out.now c.loop-line.at _ _ (sym c.loop-line.invariant ∙ c.in-Some.ensures.steps) in
    omega (arith, line.ends.within)

pub loop-line-preserved : goal.loop-line-preserved
loop-line-preserved g c =
    let line = line_at c.args.out.now c.loop-line.at _ _ (sym c.loop-line.invariant ∙ c.in-Some.ensures.steps) in
    let next : c.loop-line.at + length c.in-Some.line.now + 1 ≡ c.loop-line.at + (length c.in-Some.line.now + 1) = omega arith in
    line.others ∙ ap (λ (n : ℕ). lines (drop n c.args.out.now)) next
