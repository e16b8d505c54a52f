-- `table::all_kinds` meets its contract: the constant is the specification's table. Assumes nothing.
use mathlib.Core.Path.{refl}
use Rattle.table.specs.Kinds.{kinds}
use Rattle.table.proofs.kind.all_kinds.Goals as goal

pub returns : goal.returns
unfolding kinds
returns c = refl
