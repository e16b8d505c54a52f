-- `reading` meets its contract: each number has its constructor.
-- Assumes nothing.
use borrow.Author.Rules.{rules}
use Rattle.pursegable.specs.Building.{reading_made}
use Rattle.pursegable.proofs.Making.{reading-rest}
use Rattle.pursegable.proofs.constructors.reading.Goals as goal

pub returns-in-0 : goal.returns-in-0
unfolding reading_made
returns-in-0 c =
    rw c.in-0.is c.nil.ensures

pub returns-in-1 : goal.returns-in-1
unfolding reading_made
returns-in-1 c =
    rw c.in-1.is c.append.ensures

pub returns-in-2 : goal.returns-in-2
unfolding reading_made
returns-in-2 c =
    rw c.in-2.is c.group.ensures

pub returns-in-3 : goal.returns-in-3
unfolding reading_made
returns-in-3 c =
    rw c.in-3.is c.flat_alt.ensures

pub returns-in-4 : goal.returns-in-4
unfolding reading_made
returns-in-4 c =
    rw c.in-4.is c.nest.ensures

pub returns-in-5 : goal.returns-in-5
unfolding reading_made
returns-in-5 c =
    rw c.in-5.is c.hardline.ensures

pub returns-in-7 : goal.returns-in-7
unfolding reading_made
returns-in-7 c =
    rw c.in-7.is c.annotate.ensures

pub returns-in-8 : goal.returns-in-8
unfolding reading_made
returns-in-8 c =
    rw c.in-8.is c.union.ensures

pub returns-in-9 : goal.returns-in-9
unfolding reading_made
returns-in-9 c =
    rw c.in-9.is c.align.ensures

pub returns-in-10 : goal.returns-in-10
unfolding reading_made
returns-in-10 c =
    rw c.in-10.is c.fail.ensures

pub returns-in-13 : goal.returns-in-13
unfolding reading_made
returns-in-13 c =
    rw c.in-13.is c.line_.ensures

pub returns-in-15 : goal.returns-in-15
unfolding reading_made
returns-in-15 c =
    rw c.in-15.is c.softline_.ensures

pub returns-in-16 : goal.returns-in-16
unfolding reading_made
returns-in-16 c =
    rw c.in-16.is c.hang.ensures

pub returns-in_default : goal.returns-in_default
returns-in_default c =
    reading-rest _ _ _ _ _ _ _ (search rules) c.enclose.ensures
