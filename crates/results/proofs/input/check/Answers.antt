use Rattle.std.proofs.Common.{arith}
use Rattle.buffer.proofs.ByLine.{lines-within}
use Rattle.results.proofs.input.check.Goals as goal

pub overflow_add-result : goal.overflow_add-result
overflow_add-result c = omega (arith, c.loop-line.invariant.0, lines-within c.args.input.now)

pub overflow_add-before : goal.overflow_add-before
overflow_add-before c = omega (arith, c.loop-line.invariant.0, lines-within c.args.input.now)
