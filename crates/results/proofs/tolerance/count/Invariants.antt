-- `results::tolerance::count` meets its contract: rows and notes so far, with those of the lines that are left, are all. Assumes nothing.
use Rattle.buffer.specs.Lines.{lines_left}
use Rattle.results.proofs.Walking.{Counted}
use Rattle.results.proofs.tolerance.count.Given as goal

abbrev pub invariant-loop-line : goal.invariant-loop-line
invariant-loop-line l = Counted l.input l.rows l.out (lines_left l.line-iterator)
