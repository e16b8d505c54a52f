-- `words::add_word` meets its contract. Assumes nothing.
use Rattle.words.proofs.Chain.{new, kept, after, refused, appends}
use Rattle.words.proofs.add_word.Goals as goal

pub append-requires : goal.append-requires
append-requires c = tt

pub returns-in_err-c : goal.returns-in_err-c
returns-in_err-c c = λ d e i j. refused c.from_residual.result _ c.from_residual.ensures.1

pub leaf-requires : goal.leaf-requires
leaf-requires c = tt

pub returns-in_err-c-2 : goal.returns-in_err-c-2
returns-in_err-c-2 c = λ d e i j. refused c.from_residual-in_err-c-2.result _ c.from_residual-in_err-c-2.ensures.1

pub append-requires-2 : goal.append-requires-2
append-requires-2 c = tt

pub returns : goal.returns
returns c =
    λ d e i j.
    after
    (appends i j c.append.ensures)
    c.in_ok-c.was
    (λ b. after c.leaf.ensures c.in_ok-c-2.was (λ w. appends (kept w (new b)) (new w) c.append-2.ensures))
