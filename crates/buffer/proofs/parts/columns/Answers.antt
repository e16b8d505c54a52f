use Rattle.std.proofs.Common.{◌∙◌, sym, ap, ◌||◌, ltb}
use Rattle.std.specs.List.{count_by}
use lib.Seq.{take_all}
use Rattle.buffer.proofs.Reading.{characters-is}
use Rattle.buffer.proofs.parts.columns.Goals as goal

pub returns : goal.returns
returns c =
    let s = c.args.s.now in
    c.loop-b.invariant ∙ ap (count_by (λ b. ltb b 128 || ltb 191 b)) (take_all c.loop-b.b-index s c.loop-b-test.false) ∙ sym (characters-is s)
