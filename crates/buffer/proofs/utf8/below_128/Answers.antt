-- `utf8::below_128` meets its contract. Assumes nothing.
use Rattle.std.proofs.Common.{◌≡◌, ◌∙◌, refl, true, ◌&&◌, ltb, rules, tests}
use Rattle.std.proofs.lemmas.Iterator.{YieldsList-from_slice}
use Rattle.std.proofs.lemmas.Iterator.Consumers.{fold_from_yields_List}
use Rattle.std.specs.List.{fold}
use Rattle.buffer.specs.Utf8.{ascii, every}
use Rattle.buffer.proofs.Octets.{fold-and}
use Rattle.buffer.proofs.utf8.below_128.Goals as goal

pub returns : goal.returns
unfolding ascii every
returns c =
    let s = c.args.bytes.now in
    let e : c.fold.result ≡ fold (λ all b. all && ltb b 128) true s =
    fold_from_yields_List _ (λ all b. all && ltb b 128) true c.fold.result c.fold.ensures.ran (YieldsList-from_slice s cc) (λ a x b q k. search (rules, tests)) in
    e ∙ fold-and ascii (λ b. ltb b 128) refl (λ b bs. refl) s
