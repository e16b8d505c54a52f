-- `words::filled` meets its contract: the words so far and those to come are all. Assumes nothing.
use Prim.Native.Nat.{◌-◌}
use mathlib.Core.Path.{◌≡◌}
use lib.ListN.{length}
use Rattle.words.proofs.Filling.{Filling}
use Rattle.words.proofs.filled.Given as goal

abbrev pub invariant-loop-at : goal.invariant-loop-at
invariant-loop-at l =
    (length l.table ≡ length l.initial.table) × (length l.text ≡ length l.initial.text) × Filling l.initial.c l.initial.table l.initial.text l.initial.n l.softline l.s l.most l.at l.c l.table l.text l.n l.between

abbrev pub decreases-loop-at : goal.decreases-loop-at
decreases-loop-at l = length l.s - l.at
