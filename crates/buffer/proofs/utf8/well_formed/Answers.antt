-- `utf8::well_formed` meets its contract. Assumes nothing.
use Rattle.std.proofs.Common.{◌≡◌, ◌∙◌, refl, sym, ap, [], length, drop, arith}
use lib.Seq.{drop-length}
use Rattle.buffer.specs.Utf8.{well_formed, owed}
use Rattle.buffer.specs.Reader.{ranges}
use Rattle.buffer.proofs.Octets.{owed-low, owed-end}
use Rattle.buffer.proofs.utf8.well_formed.Goals as goal

pub loop-b-init : goal.loop-b-init
unfolding well_formed
loop-b-init c = rw c.tails-o.ensures refl

pub loop-b-preserved-then-b-lt128 : goal.loop-b-preserved-then-b-lt128
loop-b-preserved-then-b-lt128 c =
    let L = c.loop-b in
    owed-low c.args.bytes.now L.b-index L.o.count L.o.low L.o.high c.loop-b-test.true c.if-o-eq0.true c.if-b-lt128.true ∙ L.invariant

pub returns : goal.returns
returns c =
    let L = c.loop-b in
    let bytes = c.args.bytes.now in
    let e : L.b-index ≡ length bytes = omega arith in
    let done : drop L.b-index bytes ≡ [] = rw (e, drop-length) refl in
    sym (owed-end L.o.count L.o.low L.o.high) ∙ ap (owed (ranges L.o)) (sym done) ∙ L.invariant
