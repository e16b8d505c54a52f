-- Every turn one record more is read from the words; after the last all are.
use Rattle.std.proofs.Common.{◌≡◌, ◌∙◌, ap, sym, set, length, arith}
use Rattle.events.specs.Records.{none, record_at}
use Rattle.events.proofs.Filled.{filled, filled_0, filled_more, filled-all}
use Rattle.events.proofs.publish.Goals as goal

pub loop-k-init : goal.loop-k-init
loop-k-init c = sym (filled_0 _ c.args.out.now)

pub loop-k-preserved : goal.loop-k-preserved
loop-k-preserved c =
    let L = c.loop-k in
    let a = c.args in
    ap (λ l. set l L.k c.record_at.result) L.invariant
    ∙ filled_more (record_at a.words.now a.used) a.out.now L.k none c.record_at.result c.record_at.ensures (omega arith)

pub returns : goal.returns
returns c =
    let L = c.loop-k in
    let a = c.args in
    let e : L.k ≡ length a.out.now = omega arith in
    L.invariant ∙ ap (filled (record_at a.words.now a.used) a.out.now) e ∙ filled-all (record_at a.words.now a.used) a.out.now
