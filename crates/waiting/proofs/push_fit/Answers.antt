-- `waiting::push_fit` meets its contract: one store past every entry, by `fit_pushed`.
-- Assumes nothing.
use Rattle.waiting.proofs.Laws.{fit_pushed}
use borrow.Author.Rules.{rules}
use Rattle.waiting.proofs.push_fit.Goals as goal

pub returns : goal.returns
returns c = fit_pushed c.args.work.now c.args.count c.args.node.0 (search rules)
