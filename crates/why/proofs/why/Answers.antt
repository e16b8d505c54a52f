-- `why::why` meets its contract: what was decided, with every buffer cleared.
-- Assumes nothing.
use mathlib.Core.Path.{ap, ◌∙◌}
use lib.ListN.{replicate}
use Rattle.why.proofs.why.Goals as goal

pub returns : goal.returns
returns c =
    let kept = c.decide-answer.auto in
    record {
      same = c.decide-answer.ensures;
      output = c.fill.ensures.after (λ y e. e) ∙ ap (λ n. replicate n 0) kept.out;
      noted = c.fill-2.ensures.after (λ y e. e) ∙ ap (λ n. replicate n 0) kept.events;
      cleared = c.clear_dirty_words.ensures ∙ ap (λ n. replicate n 0) kept.work;
    }
