-- `footer::named` meets its contract. Assumes nothing.
use Rattle.words.proofs.Chain.{new, kept, shares-kept, after, refused}
use Rattle.footer.proofs.named.Goals as goal

pub comma-requires : goal.comma-requires
comma-requires c = tt

pub returns-in_err-c : goal.returns-in_err-c
returns-in_err-c c = λ s. refused c.from_residual.result _ c.from_residual.ensures.1

pub notes-requires : goal.notes-requires
notes-requires c = tt

pub returns-in_err-c-2 : goal.returns-in_err-c-2
returns-in_err-c-2 c = λ s. refused c.from_residual-in_err-c-2.result _ c.from_residual-in_err-c-2.ensures.1

pub blocked-requires : goal.blocked-requires
blocked-requires c = tt

pub returns : goal.returns
returns c =
    λ s.
    after
    (c.comma.ensures s.softline)
    c.in_ok-c.was
    (λ b. after (c.notes.ensures (kept b s.none) (new b)) c.in_ok-c-2.was (λ q. c.blocked.ensures _ (shares-kept q (shares-kept b s)) (new q)))
