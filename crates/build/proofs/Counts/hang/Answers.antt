-- `hang`, part by part.
use Rattle.build.specs.Draft.{counted}
use Rattle.build.proofs.Hangs.{hang-refused, hang-made}
use Rattle.build.proofs.Counts.hang.Goals as goal

pub returns-in_default : goal.returns-in_default
unfolding counted
returns-in_default c =
    let args = c.args in
    hang-refused args.self args.table.now args.text.now args.n.0 args.amount.0 args.way c.nest_before-made.ensures c.in_default.is

pub returns : goal.returns
unfolding counted
returns c =
    let args = c.args in
    hang-made args.self args.table.now args.text.now args.n.0 args.amount.0 args.way c.nest_before-made.ensures c.in-Ok.is c.align.ensures
