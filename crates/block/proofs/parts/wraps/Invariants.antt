-- `wraps`: one affix more is wrapped each turn.
use Prim.Native.Nat.{◌-◌}
use lib.ListN.{length}
use Rattle.block.proofs.Loops.{Wrapping}
use Rattle.block.proofs.parts.wraps.Given as goal

abbrev pub invariant-loop-prefix : goal.invariant-loop-prefix
invariant-loop-prefix l =
    Wrapping l.initial.c l.initial.table l.text l.block l.initial.n l.prefixes l.nests (length l.prefixes - length l.yielded) l.c l.n l.table
