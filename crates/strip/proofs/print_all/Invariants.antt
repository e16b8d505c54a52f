-- `strip::print_all` is safe and ends: the lines that are left start at the place reached. Assumes nothing.
use Rattle.std.proofs.Common.{◌≡◌, drop}
use Rattle.buffer.specs.Parts.{lines}
use Rattle.buffer.specs.Lines.{lines_left}
use Rattle.strip.proofs.print_all.Given as goal

abbrev pub invariant-loop-line : goal.invariant-loop-line
invariant-loop-line g l = lines_left l.line-iterator ≡ lines (drop l.at l.out)
