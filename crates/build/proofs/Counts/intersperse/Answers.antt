-- `intersperse`: of none one Nil, else the first with a separator and each of the others joined to it.
use mathlib.Core.Path.{refl, sym, ◌∙◌}
use Rattle.build.proofs.Leaf.{by-operands}
use Rattle.build.proofs.Joins.{join-refused}
use Rattle.build.proofs.Separated.{intersperse-none, intersperse-made, intersperse-turn, intersperse-end}
use Rattle.build.proofs.Counts.intersperse.Goals as goal

pub returns-in_default : goal.returns-in_default
returns-in_default c =
    let args = c.args in
    by-operands args.self args.table.now args.text.now c.has_with-present.ensures _ (rw c.words_of.ensures at c.one.ensures)
    ∙ intersperse-none args.self args.table.now args.text.now args.separator.0 args.nodes.now c.in_default.ensures.cases

pub loop-n-init : goal.loop-n-init
loop-n-init c =
    let args = c.args in
    let first = rw (c.of.ensures, c.has_with-present.ensures, c.separated_adds-more.ensures) at c.older-made.ensures in
    record { kept = refl; joins = intersperse-made args.self args.table.now args.text.now c.in-Some.ensures.cases.0 args.separator.0 first }

pub returns-in_default-made : goal.returns-in_default-made
returns-in_default-made c = sym (join-refused _ _ _ c.in_default-made.is) ∙ c.loop-n.invariant.joins

pub returns-in_default-separated : goal.returns-in_default-separated
returns-in_default-separated c =
    let args = c.args in
    let now = c.loop-n in
    let made = c.append-separated.result in
    let table = c.append-separated.new.table in
    let refused = c.in_default-separated.is in
    sym (join-refused _ _ _ refused)
    ∙ intersperse-turn now.made made now.table table args.text.now {m₃ = made} {table₃ = table} args.separator.0 c.in-Some.rest.now now.n-index c.loop-n-test.true
    (rw c.in-Ok.is c.append-separated.ensures) (rw refused refl)
    ∙ now.invariant.joins

pub loop-n-preserved : goal.loop-n-preserved
loop-n-preserved c =
    let args = c.args in
    let now = c.loop-n in
    record {
      kept = c.append-made.auto.table ∙ c.append-separated.auto.table ∙ now.invariant.kept;
      joins =
          intersperse-turn now.made c.append-separated.result now.table c.append-separated.new.table args.text.now args.separator.0 c.in-Some.rest.now now.n-index
          c.loop-n-test.true (rw c.in-Ok.is c.append-separated.ensures) (rw c.in-Ok-separated.is c.append-made.ensures)
          ∙ now.invariant.joins;
    }

pub returns : goal.returns
returns c =
    let now = c.loop-n in
    intersperse-end c.args.separator.0 c.in-Some.rest.now now.n-index c.loop-n-test.false ∙ now.invariant.joins
