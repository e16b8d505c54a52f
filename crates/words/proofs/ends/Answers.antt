-- `words::ends` meets its contract. Assumes nothing.
use native.Mathlib.Omega.{arith}
use borrow.Author.Tests.{le-leb, lt-leb}
use Rattle.words.proofs.ends.Goals as goal

pub returns-then-most-wide : goal.returns-then-most-wide
returns-then-most-wide c = let a = c.args in rw (le-leb a.most a.wide (omega arith))

pub returns : goal.returns
returns c = let a = c.args in rw (lt-leb a.most a.wide (omega arith))
