-- `replay::lines::number` meets its contract: the number from here is the number from the start. Assumes nothing.
use Rattle.std.proofs.Common.{◌≡◌, ◌+◌, drop}
use Rattle.replay.specs.Numbers.{value_of, digits}
use Rattle.replay.specs.Bases.{base_of}
use Rattle.replay.proofs.lines.number.Given as goal

abbrev pub invariant-loop-at : goal.invariant-loop-at
invariant-loop-at l =
    let base = base_of l.base in
    (value_of base l.value (drop l.at l.s) ≡ value_of base l.first (drop l.from l.s)) × (l.at + digits base (drop l.at l.s) ≡ l.from + digits base (drop l.from l.s))
