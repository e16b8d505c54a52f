-- `words::start::share` meets its contract. Assumes nothing.
use mathlib.Core.Path.{◌∙◌}
use Rattle.build.proofs.Handed.{handed}
use Rattle.words.specs.Start.{breaks_of, feed_of, sharing}
use Rattle.words.proofs.Chain.{new, kept, nils, feeds, empty-valid, stops, goes}
use Rattle.words.proofs.start.share.Goals as goal

pub returns-in_err-c : goal.returns-in_err-c
unfolding sharing
returns-in_err-c c =
    let is = handed c.from_residual.result c.from_residual.ensures.1 in
    record { same = rw is (stops c.nil.ensures feed_of c.in_err-c.was); started = rw is tt }

pub returns-in_err-c-2 : goal.returns-in_err-c-2
unfolding sharing
returns-in_err-c-2 c =
    let is = handed c.from_residual-in_err-c-2.result c.from_residual-in_err-c-2.ensures.1 in
    record {
      same = rw is (stops c.hardline.ensures breaks_of c.in_err-c-2.was ∙ goes c.nil.ensures feed_of c.in_ok-c.was);
      started = rw is tt;
    }

pub returns : goal.returns
unfolding sharing
returns c =
    let a = c.args in
    let b = nils c.nil.ensures _ _ c.in_ok-c.was (empty-valid a.table.now a.text.now) in
    let q = feeds c.hardline.ensures _ _ c.in_ok-c-2.was b.valid in
    record {
      same = c.breaks.ensures.same ∙ goes c.hardline.ensures breaks_of c.in_ok-c-2.was ∙ goes c.nil.ensures feed_of c.in_ok-c.was;
      started = c.breaks.ensures.shares q.valid (kept q (new b)) (new q);
    }
