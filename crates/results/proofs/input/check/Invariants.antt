-- `results::input::check` meets its contract: the first fault among the lines that are left is the first of all, so far as none was before. Assumes nothing.
use Rattle.std.proofs.Common.{◌≡◌, ◌+◌, length}
use Rattle.buffer.specs.Parts.{lines}
use Rattle.buffer.specs.Lines.{lines_left}
use Rattle.results.specs.Pallets.{checked}
use Rattle.results.proofs.input.check.Given as goal

abbrev pub invariant-loop-line : goal.invariant-loop-line
invariant-loop-line l =
    let left = lines_left l.line-iterator in
    (l.before + length left ≡ length (lines l.input)) × (checked l.before left ≡ checked 0 (lines l.input))
