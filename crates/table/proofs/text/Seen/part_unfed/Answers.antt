-- `Seen::part_unfed` meets its contract: a part of what has no line feed, or a part looked through. Assumes nothing.
use mathlib.Core.Path.{sym, ◌∙◌}
use Rattle.buffer.proofs.Octets.{unfed_part}
use Rattle.table.proofs.text.Seen.part_unfed.Goals as goal

pub returns-then-self : goal.returns-then-self
returns-then-self c =
    let seen = c.args.self.now in
    sym (unfed_part seen.text.now c.args.at c.args.n (sym seen.unfed_seen ∙ c.if-self.true))
