use Rattle.std.proofs.Common.{◌≡◌, ◌∙◌, sym, ap, ◌+◌, ◌-◌, ◌/◌, ◌%◌, drop, arith}
use Rattle.append.specs.Decimal.{digits_on}
use Rattle.append.proofs.Digits.{digit-here, digit_last, digit-more, no-digits}
use Rattle.append.proofs.put_digits.Goals as goal

pub returns-then-n-eq0 : goal.returns-then-n-eq0
returns-then-n-eq0 c =
    let L = c.loop-at in
    digit-here L.out L.at (48 + L.n % 10) (omega arith) (omega arith) ∙ sym (digit_last L.at L.n (drop L.at L.out) (omega arith) c.if-n-eq0.true) ∙ L.invariant

pub loop-at-preserved : goal.loop-at-preserved
loop-at-preserved c =
    let L = c.loop-at in
    ap (digits_on (L.at - 1) (L.n / 10)) (digit-here L.out L.at (48 + L.n % 10) (omega arith) (omega arith)) ∙ sym (digit-more L.at L.n (drop L.at L.out) (omega arith) c.if-n-eq0.false) ∙ L.invariant

pub returns : goal.returns
returns c =
    let L = c.loop-at in
    let z : L.at ≡ 0 = omega arith in
    rw z at (no-digits L.at L.n (drop L.at L.out) (omega arith) ∙ L.invariant)
