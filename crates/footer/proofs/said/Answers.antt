-- `footer::said` meets its contract. Assumes nothing.
use mathlib.Core.Path.{refl}
use Rattle.words.proofs.Chain.{gives}
use Rattle.footer.proofs.Footing.{told_none, told-some}
use Rattle.footer.proofs.said.Goals as goal

pub all_within-requires : goal.all_within-requires
all_within-requires c = tt

pub returns-then-out-eq0 : goal.returns-then-out-eq0
returns-then-out-eq0 c =
    λ s. gives refl (told_none _ _ c.if-out-eq0.true (cc)) c.all_within.ensures

pub named-requires : goal.named-requires
named-requires c = tt

pub returns : goal.returns
returns c =
    λ s. gives refl (told-some _ _ c.if-out-eq0.false (cc)) (c.named.ensures s)
