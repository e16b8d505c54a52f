use borrow.Author.Rules.{rules}
use native.Mathlib.Omega.{arith}
use Rattle.buffer.specs.Parts.{lines}
use Rattle.results.specs.Standing.{out_notes}
use Rattle.results.proofs.Walking.{first_of}
use Rattle.footer.specs.Documents.{comma_doc}
use Rattle.words.proofs.Chain.{refused}
use Rattle.words.proofs.Filling.{none-added, one-added, all-added}
use Rattle.footer.proofs.Footing.{no_more}
use Rattle.footer.proofs.notes.Goals as goal

pub loop-out-init : goal.loop-out-init
loop-out-init c =
    let a = c.args in
    (search rules, search rules, λ i j. none-added a.c a.table.now a.text.now comma_doc (out_notes (lines a.input.now)) a.none i)

pub next_out-requires : goal.next_out-requires
next_out-requires c = tt

pub slice_bounds-add_word-count : goal.slice_bounds-add_word-count
slice_bounds-add_word-count c =
    let f = first_of _ _ c.in-Some.is c.next_out.ensures.1 in
    omega (arith, f.note)

pub add_word-requires : goal.add_word-requires
add_word-requires c = tt

pub returns-in_err-after : goal.returns-in_err-after
returns-in_err-after c = λ i j. refused c.from_residual.result _ c.from_residual.ensures.1

pub overflow_add-at : goal.overflow_add-at
overflow_add-at c =
    let f = first_of _ _ c.in-Some.is c.next_out.ensures.1 in
    omega (arith, f.inside, c.well_formed.1.1.1.1.1.0)

pub loop-out-smaller : goal.loop-out-smaller
loop-out-smaller c =
    let f = first_of _ _ c.in-Some.is c.next_out.ensures.1 in
    omega (arith, f.ahead, f.note, f.line, f.inside)

pub loop-out-preserved : goal.loop-out-preserved
loop-out-preserved c =
    let f = first_of _ _ c.in-Some.is c.next_out.ensures.1 in
    (search rules, search rules, λ i j. one-added (c.loop-out.invariant.2 i j) _ _ f.names c.add_word.ensures c.in_ok-after.was j)

pub returns : goal.returns
returns c =
    λ i j. all-added (c.loop-out.invariant.2 i j) (no_more _ _ c.in_default.is c.next_out.ensures.1)
