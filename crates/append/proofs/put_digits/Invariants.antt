-- `append::put_digits` meets its contract: the digits to come before those that stand are all. Assumes nothing.
use Rattle.std.proofs.Common.{◌≡◌, [], length, drop}
use Rattle.append.specs.Decimal.{digits_on}
use Rattle.append.proofs.put_digits.Given as goal

abbrev pub invariant-loop-at : goal.invariant-loop-at
invariant-loop-at l = digits_on l.at l.n (drop l.at l.out) ≡ digits_on (length l.initial.out) l.n-2 []
