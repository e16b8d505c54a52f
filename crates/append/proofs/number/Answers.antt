-- `append::number` meets its contract. Assumes nothing.
use mathlib.Core.Path.{◌∙◌}
use Rattle.append.proofs.Appending.{adds_same}
use Rattle.append.proofs.number.Goals as goal

pub returns : goal.returns
returns c =
    adds_same c.append.ensures (c.behind.ensures ∙ c.put_digits-first.ensures)
