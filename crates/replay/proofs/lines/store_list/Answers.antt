use Rattle.std.proofs.Common.{◌≡◌, ◌++◌, drop, get_or, replicate, sym, refl, ap, ◌∙◌, arith}
use Rattle.replay.specs.Bases.{base_of}
use Rattle.replay.specs.Numbers.{digit_of, between, listed, stored, count_after}
use Rattle.replay.proofs.Listing.{digit_worth, digit_none, list-number, list-other, list-end}
use Rattle.replay.proofs.Storing.{stored_more, stored-none}
use Rattle.replay.proofs.lines.store_list.Goals as goal

pub loop-at-preserved-in-Some : goal.loop-at-preserved-in-Some
loop-at-preserved-in-Some c =
    let s = c.args.s.now in
    let base = base_of c.args.base in
    let L = c.loop-at in
    let d = c.in-Some.d in
    let w = digit_worth base (get_or s L.at 0) d c.in-Some.ensures in
    let it = c.repeated-it in
    let put = c.store-count.ensures in
    let xs = replicate it.result.times it.result.value in
    let l = listed base between (drop it.result.end s) in
    let reads : listed base between (drop L.at s) ≡ xs ++ l =
    list-number base s L.at d w.0 c.loop-at-test.true w.1
    ∙ it.ensures.0 in
    let m = stored_more L.out L.count L.invariant.1 xs l _ _ put.0 put.1 in
    (it.ensures.2, m.2, m.3 ∙ L.invariant.2, sym (ap (stored L.out L.count) reads ∙ m.0) ∙ L.invariant.3, sym (ap (count_after L.out L.count) reads ∙ m.1) ∙ L.invariant.4)

pub loop-at-preserved : goal.loop-at-preserved
loop-at-preserved c =
    let s = c.args.s.now in
    let base = base_of c.args.base in
    let L = c.loop-at in
    let b = get_or s L.at 0 in
    let reads = list-other base s L.at (digit_of b) refl c.loop-at-test.true (digit_none base b c.in_default.ensures) in
    (omega arith, L.invariant.1, L.invariant.2, sym (ap (stored L.out L.count) reads) ∙ L.invariant.3, sym (ap (count_after L.out L.count) reads) ∙ L.invariant.4)

pub returns : goal.returns
returns c =
    let L = c.loop-at in
    let none = list-end (base_of c.args.base) c.args.s.now L.at c.loop-at-test.false in
    let m = stored-none L.out L.count _ none in
    (m.0 ∙ L.invariant.3, m.1 ∙ L.invariant.4)
