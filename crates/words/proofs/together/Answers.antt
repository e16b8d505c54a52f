use native.Mathlib.Omega.{arith}
use mathlib.Core.Path.{sym, ◌∙◌}
use lib.ListN.{get_or}
use Rattle.words.proofs.Cutting.{place, Noted, behind-further, blank-here, no-blank, goes_on_lem, words-end, word_on, at-blank, all-together}
use Rattle.words.proofs.together.Goals.{then-b-eq32, else-b-eq32}
use Rattle.words.proofs.together.Goals as goal

pub loop-i-preserved-then-goes_on : goal.loop-i-preserved-then-goes_on
loop-i-preserved-then-goes_on c =
    let L = c.loop-i in
    (omega (arith, L.invariant.0), behind-further L.i L.blank L.invariant.1, sym (goes_on_lem c.args.most L.wide (place L.blank) c.args.s.now L.i c.loop-i-test.true c.if-goes_on.true) ∙ L.invariant.2)

pub returns-then-ends : goal.returns-then-ends
returns-then-ends c =
    let L = c.loop-i in
    let s = c.args.s.now in
    let b = get_or s L.i 0 in
    let noted : Noted b L.i L.blank c.if-b-eq32.blank =
    elim c.if-b-eq32.branch [ then-b-eq32 w ↦ blank-here b L.i L.blank c.if-b-eq32.blank (omega (arith, L.auto.i)) w.if-b-eq32.true w.blank-is | else-b-eq32 w ↦ no-blank b L.i L.blank c.if-b-eq32.blank L.invariant.1 w.if-b-eq32.false w.blank-is ] in
    let e = words-end c.args.most L.wide (place L.blank) s L.i c.loop-i-test.true c.if-goes_on.false (place c.if-b-eq32.blank) noted.0 (sym c.if-ends.true ∙ c.ends.ensures) in
    let r = at-blank _ L.i c.if-b-eq32.blank (omega (arith, L.auto.i)) noted.1 c.unwrap_or.ensures in
    (r.0 ∙ sym e ∙ L.invariant.2, r.1, omega (arith, r.2, c.loop-i-test.true))

pub loop-i-preserved : goal.loop-i-preserved
loop-i-preserved c =
    let L = c.loop-i in
    let s = c.args.s.now in
    let b = get_or s L.i 0 in
    let noted : Noted b L.i L.blank c.if-b-eq32.blank =
    elim c.if-b-eq32.branch [ then-b-eq32 w ↦ blank-here b L.i L.blank c.if-b-eq32.blank (omega (arith, L.auto.i)) w.if-b-eq32.true w.blank-is | else-b-eq32 w ↦ no-blank b L.i L.blank c.if-b-eq32.blank L.invariant.1 w.if-b-eq32.false w.blank-is ] in
    (omega (arith, L.invariant.0), noted.1, sym (word_on c.args.most L.wide (place L.blank) s L.i c.loop-i-test.true c.if-goes_on.false (place c.if-b-eq32.blank) noted.0 (sym c.if-ends.false ∙ c.ends.ensures)) ∙ L.invariant.2)

pub returns : goal.returns
returns c =
    let L = c.loop-i in
    let s = c.args.s.now in
    let all = all-together c.args.most L.wide (place L.blank) s L.i c.loop-i-test.false in
    (omega (arith, L.auto.i-end, c.requires, c.loop-i-test.false, all, L.invariant.2), c.requires, omega arith)
