-- `utf8::octet` meets its contract: a first octet, one outside what is owed, or one in it. Assumes nothing.
use Rattle.std.proofs.Common.{◌≡◌, true, false, refl}
use borrow.Author.Tests.{le-leb, lt-leb}
use Rattle.buffer.specs.Utf8.{to, within}
use Rattle.buffer.proofs.Octets.{owed_first, owed_outside, owed-next}
use Rattle.buffer.proofs.utf8.octet.Goals as goal
use Rattle.buffer.proofs.utf8.octet.Goals.{then-b-o-via-then-b-o, then-b-o-via-else-b-o+then-o-b}

pub returns-then-o-eq0 : goal.returns-then-o-eq0
returns-then-o-eq0 c =
    let a = c.args in
    owed_first a.o.count a.o.low a.o.high a.b c.start_of.result c.if-o-eq0.true c.start_of.ensures

pub returns-then-b-o : goal.returns-then-b-o
returns-then-b-o c =
    let a = c.args in
    let o = a.o in
    let out : within (to o.low o.high) a.b ≡ false =
    elim c.then-b-o.branch [
      | then-b-o-via-then-b-o w ↦ rw (lt-leb o.low a.b w.if-b-o.true) refl
      | then-b-o-via-else-b-o+then-o-b w ↦ rw (le-leb o.low a.b w.if-b-o.false, lt-leb a.b o.high w.if-o-b.true) refl
    ] in
    owed_outside o.count o.low o.high a.b c.if-o-eq0.false out

pub returns : goal.returns
returns c =
    let a = c.args in
    let o = a.o in
    let in-it : within (to o.low o.high) a.b ≡ true = rw (le-leb o.low a.b c.if-b-o.false, le-leb a.b o.high c.if-o-b.false) refl in
    rw c.tails.ensures (owed-next o.count o.low o.high a.b c.if-o-eq0.false in-it)
