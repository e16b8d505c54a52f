-- `chest::add_lines` meets its contract. Assumes nothing.
use Rattle.std.proofs.Common.{rules, arith, ap, sym, ◌∙◌, length, ◌+◌, ◌≡◌, ℕ}
use Rattle.std.proofs.Common.{List}
use Rattle.buffer.proofs.ByLine.{lines-within}
use Rattle.chest.proofs.Sheets.{none_lined, one_lined, all_lined}
use Rattle.chest.proofs.add_lines.Goals as goal

pub loop-line-init : goal.loop-line-init
loop-line-init c =
    let start = rw (← c.into_iter-line-iterator.ensures.into_iter_gives) at c.new-line-items.ensures in
    (search rules, search rules, ap (λ (ls : List (List ℕ)). 0 + length ls) start ∙ omega arith, none_lined _ start)

pub overflow_add-count : goal.overflow_add-count
overflow_add-count c = omega (arith, c.loop-line.invariant.2, lines-within c.args.input.now, ap (λ (ls : List (List ℕ)). length ls) c.in-Some.ensures.steps)

pub loop-line-preserved : goal.loop-line-preserved
loop-line-preserved c =
    let L = c.loop-line in
    (search rules, search rules, omega (arith, L.invariant.2, ap (λ (ls : List (List ℕ)). length ls) c.in-Some.ensures.steps), λ v s. one_lined (L.invariant.3 v s) c.in-Some.ensures.steps c.added.ensures c.in-Ok.is)

pub returns-in-Err : goal.returns-in-Err
returns-in-Err c = λ v s. omega (arith, c.loop-line.invariant.2, ap (λ (ls : List (List ℕ)). length ls) c.in-Some.ensures.steps)

pub returns : goal.returns
returns c = let L = c.loop-line in λ v s. all_lined (L.invariant.3 v s) c.in-None.ensures.steps.0 L.invariant.2
