-- `results::parse` meets its contract: of an empty line at once. Assumes nothing.
use Rattle.std.proofs.Common.{rules}
use Rattle.results.proofs.Saying.{no_line}
use Rattle.results.proofs.parse.Goals as goal

pub returns-then-is_empty : goal.returns-then-is_empty
returns-then-is_empty c = no_line c.args.s.now (search rules)
