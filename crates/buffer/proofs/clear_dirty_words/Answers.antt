-- `buffer::clear_dirty_words` meets its contract: a block that is filled, one that was 0, and the rest. Assumes nothing.
use Rattle.std.proofs.Common.{◌≡◌, ◌+◌, ◌*◌, ◌/◌, ◌∙◌, length, sym, arith}
use Rattle.buffer.proofs.Put.{fill_none, block_filled, block_clean, rest-cleared}
use Rattle.buffer.proofs.clear_dirty_words.Goals as goal
use Rattle.buffer.proofs.clear_dirty_words.Goals.{then-not-is_clean, else-not-is_clean}

pub loop-k-init : goal.loop-k-init
loop-k-init c = fill_none c.args.words.now 0 0

pub loop-k-preserved : goal.loop-k-preserved
loop-k-preserved c =
    let L = c.loop-k in
    let d = c.args.words.now in
    let at = L.k * 128 in
    let next : (L.k + 1) * 128 ≡ at + 128 = omega arith in
    rw next (elim c.if-not-is_clean.branch [
      | then-not-is_clean w ↦ block_filled d at L.words L.invariant 128 (omega arith) _ (w.words-is ∙ w.fill.ensures)
      | else-not-is_clean w ↦ block_clean d at L.words L.invariant 128 (omega arith) _ w.words-is (sym c.is_clean.ensures ∙ w.if-not-is_clean.false)
    ])

pub returns : goal.returns
returns c =
    let L = c.loop-k in
    let d = c.args.words.now in
    let end = length d / 128 * 128 in
    let here : L.k * 128 ≡ end = omega arith in
    rest-cleared d end L.words (rw here at L.invariant) _ (omega arith) c.fill_from.ensures
