-- `replay::lines::store_list` meets its contract: what is stored from here is what is stored from the start. Assumes nothing.
use Rattle.std.proofs.Common.{◌≡◌, ◌-◌, ◌≤◌, length, drop}
use Rattle.replay.specs.Numbers.{between, listed, stored, count_after}
use Rattle.replay.specs.Bases.{base_of}
use Rattle.replay.proofs.lines.store_list.Given as goal

abbrev pub invariant-loop-at : goal.invariant-loop-at
invariant-loop-at l =
    (l.at ≤ length l.s)
    × (l.count ≤ length l.out)
    × (length l.out ≡ length l.initial.out)
    × (stored l.out l.count (listed (base_of l.base) between (drop l.at l.s)) ≡ stored l.initial.out 0 (listed (base_of l.base) between l.s))
    × (count_after l.out l.count (listed (base_of l.base) between (drop l.at l.s)) ≡ count_after l.initial.out 0 (listed (base_of l.base) between l.s))

abbrev pub decreases-loop-at : goal.decreases-loop-at
decreases-loop-at l = length l.s - l.at
