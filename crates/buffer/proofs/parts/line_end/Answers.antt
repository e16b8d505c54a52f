-- `buffer::parts::line_end` meets its contract. Assumes nothing.
use native.Mathlib.Omega.{arith}
use Rattle.buffer.proofs.Reading.{part-within}
use Rattle.buffer.proofs.parts.line_end.Goals as goal

pub returns : goal.returns
returns c =
    let is = c.part_end.ensures in
    record {
      is = is;
      ahead = omega (arith, is);
      within = omega (arith, is, part-within c.args.s.now c.args.from 10 c.requires);
    }
