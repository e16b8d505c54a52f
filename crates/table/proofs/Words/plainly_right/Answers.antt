-- `Words::plainly_right` meets its contract: the words of an Append or a Group are right by three tests, as the table of kinds has them.
-- Assumes nothing.
use mathlib.Core.Bool.{◌&&◌}
use lib.Dec.{eqb, ltb}
use Rattle.choice.proofs.Tests.{and-true}
use borrow.Author.Tests.{ltb-true, eqb-true}
use Rattle.table.proofs.Answers.{fault-append, fault-group}
use Rattle.table.proofs.Words.plainly_right.Goals as goal

pub returns-in-1 : goal.returns-in-1
returns-in-1 c =
    let w = c.args.self in
    λ e.
    let two = and-true (ltb w.a c.args.n.0 && ltb w.b c.args.n.0) (eqb w.c 0) e in
    let one = and-true (ltb w.a c.args.n.0) (ltb w.b c.args.n.0) two.0 in
    fault-append c.args.n.0 w.kind w.a w.b w.c c.in-1.is (ltb-true _ _ one.0) (ltb-true _ _ one.1) (eqb-true _ _ two.1)

pub returns-in-2 : goal.returns-in-2
returns-in-2 c =
    let w = c.args.self in
    λ e.
    let two = and-true (ltb w.a c.args.n.0 && eqb w.b 0) (eqb w.c 0) e in
    let one = and-true (ltb w.a c.args.n.0) (eqb w.b 0) two.0 in
    fault-group c.args.n.0 w.kind w.a w.b w.c c.in-2.is (ltb-true _ _ one.0) (eqb-true _ _ one.1) (eqb-true _ _ two.1)
