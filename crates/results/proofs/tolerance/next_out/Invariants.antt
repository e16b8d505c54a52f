-- `results::tolerance::next_out` meets its contract: what is found of the lines that are left is what is found from the start. Assumes nothing.
use Rattle.buffer.specs.Lines.{lines_left}
use Rattle.results.proofs.Walking.{Passed}
use Rattle.results.proofs.tolerance.next_out.Given as goal

abbrev pub invariant-loop-line : goal.invariant-loop-line
invariant-loop-line l = Passed l.input l.from l.start (lines_left l.line-iterator)
