-- `nest_before`: given back or wrapped.
use mathlib.Core.Path.{sym, ◌∙◌}
use Rattle.build.specs.Draft.{counted}
use Rattle.build.proofs.Leaf.{older-settled}
use Rattle.build.proofs.Hangs.{nest_kept, nest-wrapped}
use Rattle.build.proofs.Counts.nest_before.Goals as goal

pub returns-then-nest_stays : goal.returns-then-nest_stays
unfolding counted
returns-then-nest_stays c =
    let args = c.args in
    nest_kept args.self args.table.now args.text.now args.n.0 args.amount.0 args.way args.more
    (sym c.nest_stays.ensures ∙ c.if-nest_stays.true)
    (simp (← c.has-present.ensures, ← c.nest_right-amount_right.ensures)
    (older-settled args.self args.table.now args.text.now c.has-present.result c.nest_right-amount_right.result args.n
    args.more (rw c.of.ensures at c.older.ensures)))

pub returns : goal.returns
unfolding counted
returns c =
    let args = c.args in
    nest-wrapped args.self args.table.now args.text.now args.n.0 args.amount.0 args.way args.more
    (sym c.nest_stays.ensures ∙ c.if-nest_stays.false)
    (simp (← c.has-present.ensures, ← c.nest_right-amount_right.ensures)
    (rw (c.of-2.ensures, c.words_of.ensures) at c.node.ensures))
