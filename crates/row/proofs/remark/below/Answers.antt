-- `row::remark::below` meets its contract. Assumes nothing.
use Rattle.words.proofs.Chain.{new, kept, after, refused, joins}
use Rattle.row.specs.Remark.{below_doc}
use Rattle.row.proofs.remark.below.Goals as goal

pub lower-requires : goal.lower-requires
lower-requires c = tt

pub returns-in_err-c : goal.returns-in_err-c
returns-in_err-c c = λ d s i. refused c.from_residual.result _ c.from_residual.ensures.1

pub concat-requires : goal.concat-requires
concat-requires c = tt

pub returns : goal.returns
unfolding below_doc
returns c =
    λ d s i. after (c.lower.ensures s) c.in_ok-c.was (λ b. joins (kept b i) (new b) (kept b s.hardline) c.concat.ensures)
