-- `results::numbers::tenths` meets its contract: by length and point, then by the two numbers. Assumes nothing.
use Rattle.std.proofs.Common.{arith, sym, ◌∙◌}
use Rattle.results.proofs.Saying.{tenths-short, tenths_long, tenths_no_point, no-whole, whole_small, no-digit, digit_small, tenths-is}
use Rattle.results.proofs.numbers.tenths.Goals as goal
use Rattle.results.proofs.numbers.tenths.Goals.{then-n-lt3-via-then-n-lt3, then-n-lt3-via-else-n-lt3+then-n-gt4, then-n-lt3-via-else-n-lt3+else-n-gt4+then-not-is_point}

pub returns-then-n-lt3 : goal.returns-then-n-lt3
returns-then-n-lt3 c =
    let s = c.args.s.now in
    elim c.then-n-lt3.branch [
      | then-n-lt3-via-then-n-lt3 w ↦ tenths-short s w.if-n-lt3.true
      | then-n-lt3-via-else-n-lt3+then-n-gt4 w ↦ tenths_long s w.if-n-gt4.true
      | then-n-lt3-via-else-n-lt3+else-n-gt4+then-not-is_point w ↦ tenths_no_point s (omega (arith, w.if-n-lt3.false)) (omega (arith, w.if-n-gt4.false)) (sym w.is_point.ensures ∙ w.if-not-is_point.true)
    ]

pub returns-in_err-whole : goal.returns-in_err-whole
returns-in_err-whole c =
    rw c.from_residual.ensures (no-whole c.args.s.now (omega arith) (omega arith) (sym c.is_point.ensures ∙ c.if-not-is_point.false) c.number.ensures c.in_err-whole.was)

pub returns-in_err-digit : goal.returns-in_err-digit
returns-in_err-digit c =
    rw c.from_residual-in_err-digit.ensures (no-digit c.args.s.now (omega arith) (omega arith) (sym c.is_point.ensures ∙ c.if-not-is_point.false) c.number.ensures c.in_ok-whole.whole c.in_ok-whole.was c.number-2.ensures c.in_err-digit.was)

pub overflow_mul-result : goal.overflow_mul-result
overflow_mul-result c =
    omega (arith, whole_small c.args.s.now (omega arith) (omega arith) (sym c.is_point.ensures ∙ c.if-not-is_point.false) c.number.ensures c.in_ok-whole.whole c.in_ok-whole.was)

pub overflow_add-result : goal.overflow_add-result
overflow_add-result c =
    let w = whole_small c.args.s.now (omega arith) (omega arith) (sym c.is_point.ensures ∙ c.if-not-is_point.false) c.number.ensures c.in_ok-whole.whole c.in_ok-whole.was in
    let d = digit_small c.args.s.now (omega arith) (omega arith) (sym c.is_point.ensures ∙ c.if-not-is_point.false) c.number.ensures c.in_ok-whole.whole c.in_ok-whole.was c.number-2.ensures c.in_ok-digit.digit c.in_ok-digit.was in
    omega (arith, w, d)

pub returns : goal.returns
returns c =
    tenths-is c.args.s.now (omega arith) (omega arith) (sym c.is_point.ensures ∙ c.if-not-is_point.false) c.number.ensures c.in_ok-whole.whole c.in_ok-whole.was c.number-2.ensures c.in_ok-digit.digit c.in_ok-digit.was
