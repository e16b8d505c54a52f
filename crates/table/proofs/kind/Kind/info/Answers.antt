-- `Kind::info` meets its contract: the line at its number. Assumes nothing.
use Rattle.table.specs.Kinds.{kind_at}
use Rattle.table.proofs.kind.Kind.info.Goals as goal

pub returns : goal.returns
unfolding kind_at
returns c = rw (c.from.ensures, c.requires)
