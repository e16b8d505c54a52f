-- `buffer::parts::has_controls` meets its contract. Assumes nothing.
use Rattle.std.proofs.Common.{◌||◌, eqb, ltb, refl, rules}
use Rattle.std.proofs.lemmas.List.Recursion.{or_is}
use Rattle.buffer.specs.Parts.{controls}
use Rattle.buffer.proofs.parts.has_controls.Goals as goal

pub returns : goal.returns
unfolding controls
returns c = or_is controls (λ b. ltb b 32 || eqb b 127) refl (λ _ _. refl) c.args.s.now 0 _ (search rules) (search rules)
