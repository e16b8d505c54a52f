-- `wraps`: both lists from the last to the first, a turn for each.
use mathlib.Core.Path.{◌≡◌}
use Prim.Native.Nat.{◌-◌, ◌<◌}
use native.Mathlib.Omega.{arith}
use mathlib.Core.Bool.{false}
use lib.ListN.{length, get_or}
use Rattle.std.proofs.Common.{rules}
use Rattle.block.proofs.Backward.{turn_back, end_back, one_more}
use Rattle.block.proofs.Loops.{wrap-start, wrap_asks, wrap-stop, wrap-next, wrap-end}
use Rattle.build.proofs.Handed.{handed_on}
use Rattle.block.proofs.parts.wraps.Goals.{In-Some}
use Rattle.block.proofs.parts.wraps.Goals as goal

pub loop-prefix-init : goal.loop-prefix-init
loop-prefix-init c =
    let args = c.args in
    let e : length args.prefixes.now - 0 ≡ length args.prefixes.now = omega arith in
    rw e (wrap-start c.requires.0 c.requires.1 args.n c.requires.2 args.prefixes.now args.nests.now c.requires.3 c.requires.4)

-- this turn's prefix and flag
this-turn : (c : In-Some) → (0 < length c.args.prefixes.now - length c.loop-prefix.yielded)
    × (c.in-Some.field-0-0.now ≡ get_or c.args.prefixes.now (length c.args.prefixes.now - length c.loop-prefix.yielded - 1) 0)
    × (c.in-Some.field-0-1.now ≡ get_or c.args.nests.now (length c.args.prefixes.now - length c.loop-prefix.yielded - 1) false)
this-turn c =
    let args = c.args in
    let L = c.loop-prefix in
    let turn = turn_back args.prefixes.now args.nests.now c.requires.4 c.into_iter-prefix-iterator.result (search rules) (search rules)
    L.yielded _ L.yielded_by _ c.next.new.self _ c.in-Some.is c.next.ensures.steps in
    (turn.0, turn.1 0, turn.2 false)

pub wrap-requires : goal.wrap-requires
wrap-requires c =
    let args = c.args in
    let L = c.loop-prefix in
    let turn = this-turn (goal.at.wrap-requires c).In-Some in
    wrap_asks c.requires.0 c.requires.1 args.n c.requires.2 args.prefixes.now args.nests.now c.requires.3 c.requires.4 turn.0 L.invariant turn.1 turn.2

pub returns-in_err-c : goal.returns-in_err-c
returns-in_err-c c =
    let args = c.args in
    let L = c.loop-prefix in
    let turn = this-turn (goal.at.returns-in_err-c c).In-Some in
    rw (handed_on c.from_residual.result c.from_residual.ensures.1 c.in_err-c.was)
    (wrap-stop c.requires.0 c.requires.1 args.n c.requires.2 args.prefixes.now args.nests.now c.requires.3 c.requires.4 turn.0 L.invariant turn.1 turn.2 c.wrap.ensures c.in_err-c.was)

pub loop-prefix-preserved : goal.loop-prefix-preserved
loop-prefix-preserved c =
    let args = c.args in
    let L = c.loop-prefix in
    let turn = this-turn (goal.at.loop-prefix-preserved c).In-Some in
    rw (one_more (length args.prefixes.now) L.yielded (c.in-Some.field-0-0, c.in-Some.field-0-1))
    (wrap-next c.requires.0 c.requires.1 args.n c.requires.2 args.prefixes.now args.nests.now c.requires.3 c.requires.4 turn.0 L.invariant turn.1 turn.2 c.wrap.ensures c.in_ok-c.was)

pub returns : goal.returns
returns c =
    let args = c.args in
    let L = c.loop-prefix in
    let all = end_back args.prefixes.now args.nests.now c.requires.4 c.into_iter-prefix-iterator.result (search rules) (search rules) L.yielded _ L.yielded_by _ c.next.new.self c.in-None.is c.next.ensures.steps in
    wrap-end c.requires.0 c.requires.1 args.n c.requires.2 args.prefixes.now args.nests.now c.requires.3 c.requires.4 (omega (arith, all)) L.invariant
