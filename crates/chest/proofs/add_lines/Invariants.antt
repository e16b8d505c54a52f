-- `chest::add_lines` meets its contract: the lines so far, with those that are left, are all. Assumes nothing.
use Rattle.std.proofs.Common.{◌≡◌, ◌+◌, length}
use Rattle.build.specs.Promise.{ValidSoFar}
use Rattle.buffer.specs.Parts.{lines}
use Rattle.buffer.specs.Lines.{lines_left}
use Rattle.words.specs.Build.{Shares}
use Rattle.chest.proofs.Sheets.{Lining}
use Rattle.chest.proofs.add_lines.Given as goal

abbrev pub invariant-loop-line : goal.invariant-loop-line
invariant-loop-line l =
    let left = lines_left l.line-iterator in
    (length l.table ≡ length l.initial.table)
    ×
    (length l.text ≡ length l.initial.text)
    ×
    (l.count + length left ≡ length (lines l.input))
    ×
    (ValidSoFar l.initial.c l.initial.table l.initial.text → Shares l.initial.c l.initial.table l.initial.text l.shared → Lining l.shared l.input left l.c l.table l.text l.n)
