-- `utf8::no_feed` meets its contract. Assumes nothing.
use Rattle.std.proofs.Common.{◌≡◌, ◌∙◌, refl, true, not, ◌&&◌, eqb, rules, tests}
use Rattle.std.proofs.lemmas.Iterator.{YieldsList-from_slice}
use Rattle.std.proofs.lemmas.Iterator.Consumers.{fold_from_yields_List}
use Rattle.std.specs.List.{fold}
use Rattle.buffer.specs.Utf8.{no_feed, every}
use Rattle.buffer.proofs.Octets.{fold-and}
use Rattle.buffer.proofs.utf8.no_feed.Goals as goal

pub returns : goal.returns
unfolding no_feed every
returns c =
    let s = c.args.bytes.now in
    let e : c.fold.result ≡ fold (λ all b. all && not (eqb b 10)) true s =
    fold_from_yields_List _ (λ all b. all && not (eqb b 10)) true c.fold.result c.fold.ensures.ran (YieldsList-from_slice s cc) (λ a x b q k. search (rules, tests)) in
    e ∙ fold-and no_feed (λ b. not (eqb b 10)) refl (λ b bs. refl) s
