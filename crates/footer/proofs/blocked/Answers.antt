-- `footer::blocked` meets its contract. Assumes nothing.
use mathlib.Core.Path.{refl}
use Rattle.words.proofs.Chain.{new, kept, after, refused, appends}
use Rattle.footer.proofs.Footing.{blocks}
use Rattle.footer.specs.Documents.{headed_doc}
use Rattle.footer.proofs.blocked.Goals as goal

pub append-requires : goal.append-requires
append-requires c = tt

pub returns-in_err-c : goal.returns-in_err-c
returns-in_err-c c = λ d s i. refused c.from_residual.result _ c.from_residual.ensures.1

pub leaf-requires : goal.leaf-requires
leaf-requires c = tt

pub returns-in_err-c-2 : goal.returns-in_err-c-2
returns-in_err-c-2 c = λ d s i. refused c.from_residual-in_err-c-2.result _ c.from_residual-in_err-c-2.ensures.1

pub format-requires : goal.format-requires
format-requires c = tt

pub returns : goal.returns
unfolding headed_doc
returns c =
    λ d s i.
    after
    (appends s.line i c.append.ensures)
    c.in_ok-c.was
    (λ b. after c.leaf.ensures c.in_ok-c-2.was (λ q. blocks (kept q (new b)) (new q) (kept q (kept b s.none)) _ refl c.format.ensures))
