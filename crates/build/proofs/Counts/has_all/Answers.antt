-- `has_all`: every one of the list is a present node.
use Rattle.std.proofs.Common.{rules, refl, Decides, All, ◌<◌}
use Rattle.std.proofs.lemmas.Bool.Decides.{same_from_decides, Decides-by_and, Decides-ltb}
use Rattle.build.specs.Constructors.{has, has_all}
use Rattle.build.proofs.Counts.has_all.Goals as goal

pub returns : goal.returns
unfolding has_all
returns c =
    let args = c.args in
    let each : Decides c.all.result (All (λ n. n < args.self.nodes) args.ns.now) = search rules in
    same_from_decides _ _ each
    (Decides-by_and (has args.self) (λ n. n < args.self.nodes) (has_all args.self) (λ n. Decides-ltb n args.self.nodes) refl (λ _ _. refl) args.ns.now)
