-- `buffer::parts::part_end` meets its contract. Assumes nothing.
use Rattle.std.proofs.Common.{◌≡◌, sym, ap, ◌∙◌, ℕ, ◌+◌, eqb, drop, length, rules, tests}
use Rattle.std.specs.List.{position}
use Rattle.std.specs.Option.{unwrap_or}
use Rattle.std.proofs.lemmas.Iterator.{YieldsList-from_slice}
use Rattle.std.proofs.lemmas.Iterator.Search.{position_from_yields_List}
use Rattle.buffer.proofs.Reading.{index-is, first-or-all}
use Rattle.buffer.proofs.parts.part_end.Goals as goal

pub returns : goal.returns
returns c =
    let a = c.args in
    let rest = drop a.from a.s.now in
    let found : c.position.result ≡ position (λ x. eqb x a.b) rest =
    position_from_yields_List (λ x. eqb x a.b) _ _ c.position.result c.position.ensures.ran (YieldsList-from_slice rest cc) (λ x b q k. search (rules, tests)) in
    let e : c.unwrap_or.result ≡ unwrap_or (position (λ x. eqb x a.b) rest) (length rest) = cc in
    ap (λ (n : ℕ). a.from + n) (e ∙ first-or-all (λ x. eqb x a.b) rest ∙ sym (index-is a.b rest))
