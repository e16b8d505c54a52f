-- `buffer::parts::is_blank` meets its contract. Assumes nothing.
use Rattle.std.proofs.Common.{eqb, refl, rules}
use Rattle.std.proofs.lemmas.List.Recursion.{and_is}
use Rattle.buffer.specs.Parts.{blank}
use Rattle.buffer.proofs.parts.is_blank.Goals as goal

pub returns : goal.returns
unfolding blank
returns c = and_is blank (λ b. eqb b 32) refl (λ _ _. refl) c.args.s.now 0 _ (search rules) (search rules)
