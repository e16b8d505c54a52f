-- `ask`: the refusals in document 01's order.
use native.Mathlib.Omega.{arith}
use Rattle.std.proofs.lemmas.Bool.Decides.{nat_tests}
use Rattle.build.specs.Outcome.{asked}
use Rattle.build.proofs.Counts.ask.Goals as goal

pub returns-then-words-self : goal.returns-then-words-self
unfolding asked
returns-then-words-self c = grind (arith, nat_tests)

pub returns-then-not-asks : goal.returns-then-not-asks
unfolding asked
returns-then-not-asks c = grind (arith, nat_tests)

pub returns-then-not-asks-2 : goal.returns-then-not-asks-2
unfolding asked
returns-then-not-asks-2 c = grind (arith, nat_tests)

pub returns-then-not-asks-3 : goal.returns-then-not-asks-3
unfolding asked
returns-then-not-asks-3 c = grind (arith, nat_tests)

pub returns-then-not-fits : goal.returns-then-not-fits
unfolding asked
returns-then-not-fits c = grind (arith, nat_tests)

pub returns-then-not-fits-2 : goal.returns-then-not-fits-2
unfolding asked
returns-then-not-fits-2 c = grind (arith, nat_tests)

pub returns : goal.returns
unfolding asked
returns c = grind (arith, nat_tests)
