-- `any` meets its contract: each number has its constructor.
-- Assumes nothing.
use borrow.Author.Rules.{rules}
use Rattle.pursegable.specs.Building.{any_made}
use Rattle.pursegable.proofs.Making.{any-rest}
use Rattle.pursegable.proofs.constructors.any.Goals as goal

pub returns-in-11 : goal.returns-in-11
unfolding any_made
returns-in-11 c =
    rw c.in-11.is c.space.ensures

pub returns-in-12 : goal.returns-in-12
unfolding any_made
returns-in-12 c =
    rw c.in-12.is c.line.ensures

pub returns-in-14 : goal.returns-in-14
unfolding any_made
returns-in-14 c =
    rw c.in-14.is c.softline.ensures

pub returns-in-17 : goal.returns-in-17
unfolding any_made
returns-in-17 c =
    rw c.in-17.is c.indent.ensures

pub returns-in_default : goal.returns-in_default
returns-in_default c =
    any-rest _ _ _ _ _ _ _ (search rules) c.reading.ensures
