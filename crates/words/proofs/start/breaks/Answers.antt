-- `words::start::breaks` meets its contract. Assumes nothing.
use mathlib.Core.Path.{◌∙◌}
use Rattle.build.proofs.Handed.{handed}
use Rattle.words.specs.Start.{softline_of, breaking}
use Rattle.words.proofs.Chain.{new, kept, lines, groups, answers, stops, goes}
use Rattle.words.proofs.start.breaks.Goals as goal

pub returns-in_err-c : goal.returns-in_err-c
unfolding breaking
returns-in_err-c c =
    let is = handed c.from_residual.result c.from_residual.ensures.1 in
    record { same = rw is (stops c.line.ensures softline_of c.in_err-c.was); shares = λ v i j. rw is tt }

pub returns-in_err-c-2 : goal.returns-in_err-c-2
unfolding breaking
returns-in_err-c-2 c =
    let is = handed c.from_residual-in_err-c-2.result c.from_residual-in_err-c-2.ensures.1 in
    record {
      same = rw is (answers c.group.ensures c.in_err-c-2.was ∙ goes c.line.ensures softline_of c.in_ok-c.was);
      shares = λ v i j. rw is tt;
    }

pub returns : goal.returns
unfolding breaking
returns c =
    record {
      same = answers c.group.ensures c.in_ok-c-2.was ∙ goes c.line.ensures softline_of c.in_ok-c.was;
      shares =
          λ v i j.
          let b = lines c.line.ensures _ _ c.in_ok-c.was v in
          let q = groups (new b) c.group.ensures _ _ c.in_ok-c-2.was b.valid in
          (q.valid, record { none = kept q (kept b i); hardline = kept q (kept b j); line = kept q (new b); softline = new q });
    }
