use Rattle.std.proofs.Common.{ℕ, ◌+◌, drop, get_or, refl, ap, ◌∙◌, arith}
use Rattle.replay.specs.Bases.{base_of}
use Rattle.replay.specs.Numbers.{digit_of, value_of}
use Rattle.replay.proofs.Listing.{digit_worth, digit_none, value-more, value-over, value-end}
use Rattle.replay.proofs.lines.number.Goals as goal

pub returns-in_default : goal.returns-in_default
returns-in_default c =
    let s = c.args.s.now in
    let L = c.loop-at in
    let base = base_of c.args.base in
    let b = get_or s L.at 0 in
    let o = value-over base s L.at L.value (digit_of b) c.loop-at-test.true refl (digit_none base b c.in_default.ensures) in
    (o.0 ∙ L.invariant.0, refl, o.1 ∙ L.invariant.1, omega (arith, c.loop-at-test.true))

pub loop-at-preserved : goal.loop-at-preserved
loop-at-preserved c =
    let s = c.args.s.now in
    let L = c.loop-at in
    let base = base_of c.args.base in
    let d = c.in-Some.d in
    let w = digit_worth base (get_or s L.at 0) d c.in-Some.ensures in
    let m = value-more base s L.at L.value d c.loop-at-test.true w.0 w.1 in
    (ap (λ (v : ℕ). value_of base v (drop (L.at + 1) s)) c.further-value.ensures ∙ m.0 ∙ L.invariant.0, m.1 ∙ L.invariant.1)

pub returns : goal.returns
returns c =
    let s = c.args.s.now in
    let L = c.loop-at in
    let o = value-end (base_of c.args.base) s L.at L.value c.loop-at-test.false in
    (o.0 ∙ L.invariant.0, refl, omega (arith, o.1, L.invariant.1, c.loop-at-test.false, L.auto.at-end), omega arith)
