-- `footer::all_within` meets its contract. Assumes nothing.
use borrow.Author.Rules.{rules}
use native.Mathlib.Omega.{arith}
use mathlib.Core.Path.{refl, ap, ◌∙◌}
use Rattle.words.proofs.Chain.{gives}
use Rattle.words.specs.Documents.{leaf_doc}
use Rattle.footer.specs.Documents.{all_text, within_text}
use Rattle.buffer.proofs.Placing.{placed-length}
use Rattle.footer.proofs.Footing.{said_of-all, within_one, within_all}
use Rattle.footer.proofs.all_within.Goals as goal

pub leaf-requires : goal.leaf-requires
leaf-requires c = tt

pub returns-then-rows-eq1 : goal.returns-then-rows-eq1
returns-then-rows-eq1 c =
    gives refl (within_one _ (omega arith)) c.leaf.ensures

pub put_digits-first-requires : goal.put_digits-first-requires
put_digits-first-requires c = tt

pub behind-requires : goal.behind-requires
behind-requires c = tt

pub put-n-requires-3 : goal.put-n-requires-3
put-n-requires-3 c = (placed-length c.put-n-2.ensures (search rules)).1

pub front-requires : goal.front-requires
front-requires c = tt

pub leaf-requires-2 : goal.leaf-requires-2
leaf-requires-2 c = tt

pub returns : goal.returns
returns c =
    let number = c.behind.ensures ∙ c.put_digits-first.ensures in
    let said = said_of-all _ all_text within_text number c.put-n.ensures c.put-n-2.ensures c.put-n-3.ensures (omega arith) in
    gives
    refl
    (ap leaf_doc (c.front.ensures ∙ said) ∙ within_all _ (λ z. omega arith))
    c.leaf-2.ensures
