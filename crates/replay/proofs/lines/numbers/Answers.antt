-- `replay::lines::numbers` meets its contract: the list ends before the first `|`. Assumes nothing.
use Rattle.std.proofs.Common.{arith}
use Rattle.buffer.proofs.Reading.{part-within}
use Rattle.replay.proofs.Storing.{count-within}
use Rattle.replay.proofs.lines.numbers.Goals as goal

pub slice_bounds-store_list-end : goal.slice_bounds-store_list-end
slice_bounds-store_list-end c =
    omega (arith, c.part_end-end.ensures, part-within c.args.line.now c.args.from 124 c.requires)

pub returns : goal.returns
returns c =
    let r = c.store_list-count.ensures in
    let end = c.part_end-end.ensures in
    let within = part-within c.args.line.now c.args.from 124 c.requires in
    (end, r.0, r.1, omega (arith, end, within), count-within _ _ _ _ r.0 r.1)
