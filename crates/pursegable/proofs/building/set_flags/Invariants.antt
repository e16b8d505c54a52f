-- `set_flags`: so far the first i flags are those of the first i bytes.
-- Assumes nothing.
use mathlib.Core.Path.{◌≡◌}
use lib.ListN.{length, take}
use Rattle.pursegable.specs.Building.{flags_of}
use Rattle.pursegable.proofs.building.set_flags.Given as goal

abbrev pub invariant-loop-i : goal.invariant-loop-i
invariant-loop-i l = record { so_far : take l.i l.flags ≡ flags_of (take l.i l.bytes); extent : length l.flags ≡ length l.initial.flags }
