use borrow.Author.Rules.{rules}
use native.Mathlib.Omega.{arith}
use Prim.Native.Nat.{◌-◌, ◌<◌}
use mathlib.Core.Path.{◌≡◌, ap, ◌∙◌}
use lib.ListN.{length, take, drop, length-drop}
use lib.Seq.{length-take-le}
use Rattle.words.specs.Words.{together}
use Rattle.words.proofs.Chain.{refused}
use Rattle.buffer.proofs.Reading.{rest-is}
use Rattle.words.proofs.Filling.{fill_start, fill-next, fill_end}
use Rattle.words.proofs.filled.Goals as goal

pub skip-at-requires : goal.skip-at-requires
skip-at-requires c = tt

pub loop-at-init : goal.loop-at-init
loop-at-init c =
    let a = c.args in
    (search rules, search rules, fill_start a.c a.table.now a.text.now a.shared.none a.shared.softline a.s.now a.most c.skip-at.result c.skip-at.ensures)

pub together-size-requires : goal.together-size-requires
together-size-requires c =
    let s = c.args.s.now in
    let L = c.loop-at in
    let room : length (take (length s - L.at) (drop L.at s)) ≡ length s - L.at = length-take-le (length s - L.at) (drop L.at s) (simp length-drop (omega arith)) in
    omega arith

pub overflow_add-end : goal.overflow_add-end
overflow_add-end c =
    let s = c.args.s.now in
    let L = c.loop-at in
    let room : length (take (length s - L.at) (drop L.at s)) ≡ length s - L.at = length-take-le (length s - L.at) (drop L.at s) (simp length-drop (omega arith)) in
    omega (arith, c.together-size.ensures.2)

pub add_word-requires : goal.add_word-requires
add_word-requires c = tt

pub returns-in_err-next : goal.returns-in_err-next
returns-in_err-next c = λ i. refused c.from_residual.result _ c.from_residual.ensures.1

pub skip-at-requires-in-loop-at : goal.skip-at-requires-in-loop-at
skip-at-requires-in-loop-at c = tt

pub loop-at-smaller : goal.loop-at-smaller
loop-at-smaller c =
    omega (arith, c.together-size.ensures.1, c.skip-at-in-loop-at.ensures)

pub loop-at-preserved : goal.loop-at-preserved
loop-at-preserved c =
    let L = c.loop-at in
    let s = c.args.s.now in
    let most = c.args.most in
    let size = c.together-size.result in
    let is : size ≡ together most (drop L.at s) = c.together-size.ensures.0 ∙ ap (together most) (rest-is s L.at) in
    let some : 0 < size = c.together-size.ensures.1 in
    (search rules, search rules, fill-next L.invariant.2 size c.skip-at-in-loop-at.result (omega arith) is some c.skip-at-in-loop-at.ensures c.add_word.ensures c.in_ok-next.was)

pub returns : goal.returns
returns c = λ i. fill_end c.loop-at.invariant.2 (omega arith) i.none i.softline
