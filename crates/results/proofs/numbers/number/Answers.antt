use Rattle.std.proofs.Common.{◌≡◌, ℕ, ◌+◌, ◌*◌, ◌<◌, rules, arith, sym, ap, ◌∙◌, true, false, length, get_or, drop}
use lib.Dec.{leb}
use borrow.Author.Tests.{leb-true}
use Rattle.choice.proofs.Tests.{and-true}
use Rattle.results.specs.Numbers.{digit, digits}
use Rattle.results.proofs.Digits.{digit-next, digit-other, number_is, number-empty, number_long, digits-end, ten-more}
use Rattle.results.proofs.numbers.number.Goals as goal
use Rattle.results.proofs.numbers.number.Goals.{then-is_empty-via-then-is_empty, then-is_empty-via-else-is_empty+then-s-gt4}

pub returns-then-is_empty : goal.returns-then-is_empty
returns-then-is_empty c =
    let s = c.args.s.now in
    elim c.then-is_empty.branch [
      | then-is_empty-via-then-is_empty w ↦ number-empty s (search rules)
      | then-is_empty-via-else-is_empty+then-s-gt4 w ↦ number_long s (search rules)
    ]

pub returns-then-not-is_ascii_digit : goal.returns-then-not-is_ascii_digit
returns-then-not-is_ascii_digit c =
    let L = c.loop-b in
    let s = c.args.s.now in
    let some : 0 < length s = search rules in
    let other : digit (get_or s L.b-index 0) ≡ false = search rules in
    sym (number_is s some (search rules) ∙ sym L.invariant.1 ∙ digit-other L.value s L.b-index c.loop-b-test.true other)

pub loop-b-preserved : goal.loop-b-preserved
loop-b-preserved c =
    let L = c.loop-b in
    let s = c.args.s.now in
    let is : digit (get_or s L.b-index 0) ≡ true = search rules in
    let most = leb-true (get_or s L.b-index 0) 57 (and-true (leb 48 (get_or s L.b-index 0)) (leb (get_or s L.b-index 0) 57) is).1 in (
      ten-more L.b-index L.value c.from.result L.invariant.0 (omega (arith, c.from.ensures, most)),
      ap (λ (d : ℕ). digits (L.value * 10 + d) (drop (L.b-index + 1) s)) c.from.ensures ∙ sym (digit-next L.value s L.b-index c.loop-b-test.true is) ∙ L.invariant.1,
    )

pub returns : goal.returns
returns c =
    let L = c.loop-b in
    let s = c.args.s.now in
    sym (number_is s (search rules) (search rules) ∙ sym L.invariant.1 ∙ digits-end L.value s L.b-index (search rules))
