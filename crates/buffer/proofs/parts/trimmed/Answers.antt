-- `buffer::parts::trimmed` meets its contract. Assumes nothing.
use Rattle.std.proofs.Common.{◌+◌, arith, rules}
use Rattle.buffer.proofs.Reading.{trimmed_is}
use Rattle.buffer.proofs.parts.trimmed.Goals as goal

pub returns-in-Some : goal.returns-in-Some
returns-in-Some c =
    let s = c.args.s.now in
    trimmed_is s (c.in-Some.last + 1) (search rules) (search rules) (search rules)

pub returns-in-None : goal.returns-in-None
returns-in-None c = let s = c.args.s.now in trimmed_is s 0 (omega arith) (search rules) (λ k e. absurd (omega arith))
