-- `append::tenths` meets its contract. Assumes nothing.
use Rattle.append.proofs.Appending.{then-adds}
use Rattle.append.proofs.tenths.Goals as goal

pub returns : goal.returns
returns c =
    then-adds (then-adds c.number-at.ensures c.append-at.ensures) c.number.ensures
