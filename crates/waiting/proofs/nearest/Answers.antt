use Rattle.waiting.proofs.Laws.{nearest_here, nearest_below, nearest_none}
use Rattle.waiting.specs.contracts.Tag.{the_type}
use denote.Enum.Bare.{same_true, same_false}
use borrow.Author.Rules.{rules}
use native.Mathlib.Omega.{arith}
use mathlib.Core.Path.{sym, ◌∙◌}
use Rattle.waiting.proofs.nearest.Goals as goal

pub returns-then-eq : goal.returns-then-eq
returns-then-eq c =
    let here = c.loop-d.invariant in
    nearest_here _ _ _ _ c.loop-d-test.true here.1 here.0
    (sym c.tag_at.ensures ∙ same_true the_type (search rules) _ _ (sym c.eq.ensures ∙ c.if-eq.true))

pub loop-d-preserved : goal.loop-d-preserved
loop-d-preserved c = (
  omega arith,
  nearest_below _ _ _ _ c.loop-d-test.true c.loop-d.invariant.1
      (λ e. same_false the_type _ _ (sym c.eq.ensures ∙ c.if-eq.false) (c.tag_at.ensures ∙ e)),
)

pub returns : goal.returns
returns c = nearest_none _ _ _ _ c.loop-d-test.false c.loop-d.invariant.1
