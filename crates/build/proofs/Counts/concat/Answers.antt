-- `concat`: of none one Nil, else the first with the others joined to it.
use mathlib.Core.Path.{refl, sym, ◌∙◌}
use Rattle.build.proofs.Joins.{join-refused}
use Rattle.build.proofs.Concats.{concat-none, concat-made, concat-turn, concat-end}
use Rattle.build.proofs.Counts.concat.Goals as goal

pub returns-in_default : goal.returns-in_default
returns-in_default c =
    let args = c.args in
    c.nil.ensures ∙ concat-none args.self args.table.now args.text.now args.nodes.now c.in_default.ensures.cases

pub loop-n-init : goal.loop-n-init
loop-n-init c =
    let args = c.args in
    let first = rw (c.of.ensures, c.has_all-present.ensures, c.saturating_sub-more.ensures, c.solid.ensures) at c.older-made.ensures in
    record { kept = refl; joins = concat-made args.self args.table.now args.text.now c.in-Some.ensures.cases.0 first }

pub returns-in_default-made : goal.returns-in_default-made
returns-in_default-made c = sym (join-refused _ _ _ c.in_default-made.is) ∙ c.loop-n.invariant.joins

pub loop-n-preserved : goal.loop-n-preserved
loop-n-preserved c =
    let now = c.loop-n in
    record {
      kept = c.append-made.auto.table ∙ now.invariant.kept;
      joins =
          concat-turn now.made now.table c.args.text.now c.in-Some.rest.now now.n-index c.loop-n-test.true (rw c.in-Ok.is c.append-made.ensures)
          ∙ now.invariant.joins;
    }

pub returns : goal.returns
returns c =
    let now = c.loop-n in
    concat-end c.in-Some.rest.now now.n-index c.loop-n-test.false ∙ now.invariant.joins
