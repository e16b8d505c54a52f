-- `row::remark::remarked` meets its contract. Assumes nothing.
use Rattle.words.proofs.Chain.{new, kept, shares-kept, after, refused, unites}
use Rattle.row.proofs.remark.remarked.Goals as goal

pub returns-in_err-c : goal.returns-in_err-c
returns-in_err-c c = λ d s i. refused c.from_residual.result _ c.from_residual.ensures.1

pub below-requires : goal.below-requires
below-requires c = tt

pub returns-in_err-c-2 : goal.returns-in_err-c-2
returns-in_err-c-2 c = λ d s i. refused c.from_residual-in_err-c-2.result _ c.from_residual-in_err-c-2.ensures.1

pub union-requires : goal.union-requires
union-requires c = tt

pub returns : goal.returns
returns c =
    λ d s i.
    after
    (c.beside.ensures d s i)
    c.in_ok-c.was
    (λ b. after (c.below.ensures d (shares-kept b s) (kept b i)) c.in_ok-c-2.was (λ q. unites (kept q (new b)) (new q) c.union.ensures))
