use mathlib.Core.Path.{sym, ◌∙◌}
use native.Mathlib.Numerals.{add-one}
use native.Mathlib.Omega.{arith}
use Prim.Native.Nat.{◌/◌}
use lib.ListN.{length}
use Rattle.table.specs.Refusal.{number}
use Rattle.table.proofs.Refusals.{number_not-zero}
use Rattle.table.proofs.Accept.{first-zero, first_next, first-here}
use Rattle.table.proofs.Answers.{fault_read}
use Rattle.table.proofs.first_fault.Goals as goal

pub loop-n-init : goal.loop-n-init
loop-n-init c = first-zero c.args.table.now c.args.seen.now.text.now

pub loop-n-preserved-then-plainly_right : goal.loop-n-preserved-then-plainly_right
loop-n-preserved-then-plainly_right c =
    let table = c.args.table.now in
    let text = c.args.seen.now.text.now in
    let n = c.loop-n.n in
    let f = fault_read table text n c.as_chunks.result.0.now c.as_chunks.ensures.front (omega arith) in
    rw add-one (first_next table text n c.loop-n.invariant (f ∙ c.plainly_right.ensures c.if-plainly_right.true text))

pub returns-in-Err : goal.returns-in-Err
returns-in-Err c =
    let table = c.args.table.now in
    let text = c.args.seen.now.text.now in
    let n = c.loop-n.n in
    let f = fault_read table text n c.as_chunks.result.0.now c.as_chunks.ensures.front (omega arith) in
    sym (first-here table text n (number c.in-Err.why) (length table / 4) c.loop-n.invariant (f ∙ sym c.in-Err.ensures) (number_not-zero c.in-Err.why) (omega arith))

pub loop-n-preserved : goal.loop-n-preserved
loop-n-preserved c =
    let table = c.args.table.now in
    let text = c.args.seen.now.text.now in
    let n = c.loop-n.n in
    let f = fault_read table text n c.as_chunks.result.0.now c.as_chunks.ensures.front (omega arith) in
    rw add-one (first_next table text n c.loop-n.invariant (f ∙ sym c.in_default.ensures))
