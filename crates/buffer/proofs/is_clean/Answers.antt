-- `buffer::is_clean` meets its contract. Assumes nothing.
use Rattle.std.proofs.Common.{◌≡◌, ◌∙◌, refl, ap, ◌+◌, ◌-◌, true, ◌&&◌, eqb, take, drop, rules, tests}
use Rattle.std.proofs.lemmas.Iterator.{YieldsList-from_slice}
use Rattle.std.proofs.lemmas.Iterator.Consumers.{fold_from_yields_List}
use Rattle.std.specs.List.{fold}
use Rattle.buffer.specs.Run.{all_zero}
use Rattle.buffer.proofs.Octets.{fold-and}
use Rattle.buffer.proofs.Put.{part-is}
use Rattle.buffer.proofs.is_clean.Goals as goal

pub returns : goal.returns
unfolding all_zero
returns c =
    let a = c.args in
    let s = take (a.at + 128 - a.at) (drop a.at a.words.now) in
    let e : c.fold.result ≡ fold (λ all w. all && eqb w 0) true s =
    fold_from_yields_List _ (λ all w. all && eqb w 0) true c.fold.result c.fold.ensures.ran (YieldsList-from_slice s cc) (λ a x b q k. search (rules, tests)) in
    e ∙ fold-and all_zero (λ w. eqb w 0) refl (λ w ws. refl) s ∙ ap all_zero (part-is a.words.now a.at 128)
