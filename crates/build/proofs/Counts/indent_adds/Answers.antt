-- `indent_adds`: by the amount and the kind.
use native.Mathlib.Omega.{arith}
use Rattle.std.proofs.lemmas.Bool.Decides.{nat_tests}
use Rattle.build.specs.Solid.{indent_adds}
use Rattle.build.proofs.Counts.indent_adds.Goals as goal

pub returns-then-by-eq0 : goal.returns-then-by-eq0
unfolding indent_adds
returns-then-by-eq0 c = grind (arith, nat_tests)

pub returns-then-is_nil : goal.returns-then-is_nil
unfolding indent_adds
returns-then-is_nil c = grind (arith, nat_tests)

pub returns : goal.returns
unfolding indent_adds
returns c = grind (arith, nat_tests)
