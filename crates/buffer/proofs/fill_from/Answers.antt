-- `buffer::fill_from` meets its contract. Assumes nothing.
use Rattle.std.proofs.Common.{◌∙◌}
use Rattle.buffer.proofs.Put.{fill_end}
use Rattle.buffer.proofs.fill_from.Goals as goal

pub returns-then-at-n : goal.returns-then-at-n
returns-then-at-n g c = c.fill.ensures ∙ fill_end c.args.dst.now c.args.at c.args.v
