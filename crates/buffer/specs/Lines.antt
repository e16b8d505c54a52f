-- What an iterator over the lines of a text has left.
use Rattle.std.specs.Prelude.{ℕ, List}
use Rattle.buffer.specs.Parts.{lines}
use Rattle.buffer.specs.declared.lines.Lines.{Lines}

abbrev pub lines_left : Lines → List (List ℕ)
lines_left it = lines it.rest.now
