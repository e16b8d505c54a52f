-- `buffer::parts::columns` meets its contract: so far the characters are counted. Assumes nothing.
use Rattle.std.proofs.Common.{◌≡◌, ◌||◌, ltb, take}
use Rattle.std.specs.List.{count_by}
use Rattle.buffer.proofs.parts.columns.Given as goal

abbrev pub invariant-loop-b : goal.invariant-loop-b
invariant-loop-b l = l.count ≡ count_by (λ b. ltb b 128 || ltb 191 b) (take l.b-index l.s)
