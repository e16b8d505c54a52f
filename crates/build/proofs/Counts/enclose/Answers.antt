-- `enclose`: three nodes joined.
use Rattle.build.specs.Parts.{enclose, joined, concat}
use Rattle.build.proofs.Counts.enclose.Goals as goal

pub returns : goal.returns
unfolding enclose joined concat
returns c = c.concat.ensures
