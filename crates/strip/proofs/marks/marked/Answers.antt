use Rattle.std.proofs.Common.{◌≡◌, ℕ, ◌+◌, ◌*◌, ◌/◌, ◌<◌, length, drop, sym, ap, ◌∙◌, arith, length-drop}
use lib.Dec.{ltb}
use Rattle.strip.specs.Marks.{open_at, marked_at}
use Rattle.strip.proofs.Opening.{later, opens, closes, no-mark}
use Rattle.strip.proofs.marks.marked.Goals.{then-mark-eq1, else-mark-eq1, else-loop-offset-test, then-loop-offset-test+then-at-offset}
use Rattle.strip.proofs.marks.marked.Goals as goal

pub loop-offset-preserved : goal.loop-offset-preserved
loop-offset-preserved c =
    let L = c.loop-offset in
    let i = L.offset-index in
    let n = L.«open» in
    let events = c.args.events.now in
    let at = c.args.at in
    let chunks = c.as_chunks.ensures in
    let some : i < length events / 3 = omega (arith, c.loop-offset-test.true, chunks.front_len) in
    let on : ℕ → ℕ = λ m. open_at m (drop ((i + 1) * 3) events) at in
    elim c.if-mark-eq1.branch [
      | then-mark-eq1 w ↦ (
        omega (arith, w.open-is, L.invariant.0),
        ap on w.open-is ∙ opens events n at i _ chunks.front some c.if-at-offset.false w.if-mark-eq1.true ∙ L.invariant.1,
      )
      | else-mark-eq1 w ↦ (
        omega (arith, w.open-is, w.saturating_sub-open.ensures, L.invariant.0),
        ap on (w.open-is ∙ w.saturating_sub-open.ensures) ∙ closes events n at i _ chunks.front some c.if-at-offset.false w.if-mark-eq1.false ∙ L.invariant.1,
      )
    ]

pub returns : goal.returns
unfolding marked_at
returns c =
    let L = c.loop-offset in
    let i = L.offset-index in
    let n = L.«open» in
    let events = c.args.events.now in
    let at = c.args.at in
    let chunks = c.as_chunks.ensures in
    let ends : open_at n (drop (i * 3) events) at ≡ n =
    elim c.loop-offset-test.branch [
      | else-loop-offset-test w ↦ no-mark n at (drop (i * 3) events) (simp length-drop (omega (arith, w.loop-offset-test.false, chunks.front_len)))
      | then-loop-offset-test+then-at-offset w ↦ later events n at i _ chunks.front (omega (arith, w.loop-offset-test.true, chunks.front_len)) w.if-at-offset.true
    ] in
    ap (ltb 0) (sym ends ∙ L.invariant.1)
