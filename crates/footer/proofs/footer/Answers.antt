-- `footer::footer` meets its contract. Assumes nothing.
use mathlib.Core.Path.{refl}
use Rattle.words.proofs.Chain.{new, kept, after, refused, given, gives, joins}
use Rattle.footer.proofs.Footing.{footer-none, footer-some}
use Rattle.footer.proofs.footer.Goals as goal

pub count-tally-requires : goal.count-tally-requires
count-tally-requires c = tt

pub returns-then-tally-eq0 : goal.returns-then-tally-eq0
returns-then-tally-eq0 c =
    λ s. gives refl (footer-none _ c.if-tally-eq0.true (cc)) (given s.none)

pub returns-in_err-c : goal.returns-in_err-c
returns-in_err-c c = λ s. refused c.from_residual.result _ c.from_residual.ensures.1

pub concat-requires : goal.concat-requires
concat-requires c = tt

pub returns : goal.returns
returns c =
    λ s.
    gives
    refl
    (footer-some _ c.if-tally-eq0.false (cc))
    (after (c.said.ensures s) c.in_ok-c.was (λ b. joins (kept b s.hardline) (new b) (kept b s.hardline) c.concat.ensures))
