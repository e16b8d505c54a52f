-- `replay::lines::repeated` meets its contract: a number with its count, or one that no count or nothing follows. Assumes nothing.
use Rattle.std.proofs.Common.{arith}
use Rattle.replay.proofs.Listing.{number_last, number_alone, number-times, alone}
use Rattle.replay.specs.Bases.{base_of}
use Rattle.replay.proofs.lines.repeated.Goals as goal

pub returns-then-s-end-eq42 : goal.returns-then-s-end-eq42
returns-then-s-end-eq42 c =
    let one = c.number-one in
    let e = one.ensures in
    let many = c.number-many in
    let m = many.ensures in (
      number-times
          (base_of c.args.base)
          c.args.s.now
          c.args.from
          c.args.first
          one.result.value
          one.result.end
          e.0
          e.2
          many.result.value
          many.result.end
          c.if-end-s.true
          c.if-s-end-eq42.true
          m.0
          m.2,
      omega (arith, e.2, m.2),
      m.3,
    )

pub returns-else-s-end-eq42 : goal.returns-else-s-end-eq42
returns-else-s-end-eq42 c =
    let one = c.number-one in
    let e = one.ensures in
    (alone (number_alone (base_of c.args.base) c.args.s.now c.args.from c.args.first one.result.value one.result.end e.0 e.2 c.if-end-s.true c.if-s-end-eq42.false) e.1, omega (arith, e.2), e.3)

pub returns-else-end-s : goal.returns-else-end-s
returns-else-end-s c =
    let one = c.number-one in
    let e = one.ensures in
    (alone (number_last (base_of c.args.base) c.args.s.now c.args.from c.args.first one.result.value one.result.end e.0 e.2 c.if-end-s.false) e.1, omega (arith, e.2), e.3)
