-- `buffer::parts::skip` meets its contract. Assumes nothing.
use Rattle.std.proofs.Common.{◌≡◌, sym, ap, ◌∙◌, ℕ, ◌+◌, not, eqb, drop, length, rules, tests}
use Rattle.std.specs.List.{position}
use Rattle.std.specs.Option.{unwrap_or}
use Rattle.std.proofs.lemmas.Iterator.{YieldsList-from_slice}
use Rattle.std.proofs.lemmas.Iterator.Search.{position_from_yields_List}
use Rattle.buffer.proofs.Reading.{blanks-is, first-or-all}
use Rattle.buffer.proofs.parts.skip.Goals as goal

pub returns : goal.returns
returns c =
    let a = c.args in
    let rest = drop a.from a.s.now in
    let found : c.position.result ≡ position (λ x. not (eqb x 32)) rest =
    position_from_yields_List (λ x. not (eqb x 32)) _ _ c.position.result c.position.ensures.ran (YieldsList-from_slice rest cc) (λ x b q k. search (rules, tests)) in
    let e : c.unwrap_or.result ≡ unwrap_or (position (λ x. not (eqb x 32)) rest) (length rest) = cc in
    ap (λ (n : ℕ). a.from + n) (e ∙ first-or-all (λ x. not (eqb x 32)) rest ∙ sym (blanks-is rest))
