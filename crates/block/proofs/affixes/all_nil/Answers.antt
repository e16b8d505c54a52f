-- `all_nil`: every one is a Nil.
use Rattle.std.proofs.Common.{rules, refl, Decides, All, ◌≡◌}
use Rattle.std.proofs.lemmas.Bool.Decides.{same_from_decides, Decides-by_and, Decides-eqb}
use Rattle.build.specs.Draft.{counted}
use Rattle.table.specs.Node.{word}
use Rattle.build.specs.Parts.{is_nil}
use Rattle.block.specs.Affixes.{all_nil}
use Rattle.block.proofs.affixes.all_nil.Goals as goal

pub returns : goal.returns
unfolding all_nil counted
returns c =
    let s = counted c.args.c c.args.table.now c.args.text.now in
    let each : Decides c.all.result (All (λ n. word s.table n 0 ≡ 0) c.args.nodes.now) = search rules in
    same_from_decides _ _ each
    (Decides-by_and (is_nil s) (λ n. word s.table n 0 ≡ 0) (all_nil s) (λ n. Decides-eqb (word s.table n 0) 0) refl (λ _ _. refl) c.args.nodes.now)
