-- `results::numbers::number` meets its contract: the number of the digits that are left, from here, is the number from the start. Assumes nothing.
use mathlib.Core.Path.{◌≡◌}
use Prim.Native.Nat.{◌^◌, ◌<◌}
use lib.ListN.{drop}
use Rattle.results.specs.Numbers.{digits}
use Rattle.results.proofs.numbers.number.Given as goal

abbrev pub invariant-loop-b : goal.invariant-loop-b
invariant-loop-b l = (l.value < 10 ^ l.b-index) × (digits l.value (drop l.b-index l.s) ≡ digits 0 l.s)
