-- `row::remark::beside` meets its contract. Assumes nothing.
use native.Mathlib.Omega.{arith}
use mathlib.Core.Path.{refl, ap, ◌∙◌}
use Rattle.words.proofs.Chain.{new, kept, after, refused, gives, joins}
use Rattle.words.specs.Documents.{leaf_doc}
use Rattle.row.specs.Remark.{beside_doc}
use Rattle.buffer.proofs.Placing.{place-adds, written_at}
use Rattle.row.proofs.Remarks.{remark-fits}
use Rattle.row.proofs.remark.beside.Goals as goal

pub front-requires : goal.front-requires
front-requires c = tt

pub leaf-requires : goal.leaf-requires
leaf-requires c = tt

pub returns-in_err-c : goal.returns-in_err-c
returns-in_err-c c = λ d s i. refused c.from_residual.result _ c.from_residual.ensures.1

pub concat-requires : goal.concat-requires
concat-requires c = tt

pub returns : goal.returns
unfolding beside_doc
returns c =
    λ d s i.
    let says = c.args.says.now in
    let is = c.front.ensures ∙ written_at 256 2 says _ c.put-n.result (omega arith) (place-adds c.put-n.ensures) ∙ remark-fits says c.requires in
    after (gives refl (ap leaf_doc is) c.leaf.ensures) c.in_ok-c.was (λ b. joins (kept b i) (new b) (kept b s.hardline) c.concat.ensures)
