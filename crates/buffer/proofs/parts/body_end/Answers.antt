-- `buffer::parts::body_end` meets its contract: by the last byte. Assumes nothing.
use native.Mathlib.Omega.{arith}
use lib.ListN.{length}
use borrow.Author.Tests.{lt-ltb, le-ltb, eq-eqb, ne_eqb}
use Rattle.buffer.specs.Parts.{body_end}
use Rattle.buffer.proofs.parts.body_end.Goals as goal

pub returns-then-n-eq0 : goal.returns-then-n-eq0
unfolding body_end
returns-then-n-eq0 c = let s = c.args.s.now in simp (le-ltb 0 (length s) (omega arith)) (omega arith)

pub returns-then-s-n-eq13 : goal.returns-then-s-n-eq13
unfolding body_end
returns-then-s-n-eq13 c = let s = c.args.s.now in simp (lt-ltb 0 (length s) (omega arith), eq-eqb _ _ c.if-s-n-eq13.true)

pub returns : goal.returns
unfolding body_end
returns c = let s = c.args.s.now in simp (lt-ltb 0 (length s) (omega arith), ne_eqb _ _ c.if-s-n-eq13.false)
