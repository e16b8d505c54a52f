-- `nest`: with no node behind it.
use Rattle.build.specs.Draft.{counted}
use Rattle.build.proofs.Hangs.{nest_alone}
use Rattle.build.proofs.Counts.nest.Goals as goal

pub returns : goal.returns
unfolding counted
returns c =
    let args = c.args in
    nest_alone args.self args.table.now args.text.now args.n.0 args.amount.0 args.way c.nest_before.ensures
