-- More records than a call may lend are refused with the buffers cleared; else the call is made over the words.
use native.Mathlib.Omega.{arith}
use lib.ListN.{length-take}
use Rattle.events.proofs.Staging.{refused_called, staged-asked}
use Rattle.events.proofs.staged.Goals as goal

pub returns-then-slots-gt-RECORDS : goal.returns-then-slots-gt-RECORDS
returns-then-slots-gt-RECORDS c =
    refused_called _ _ _ _ c.if-slots-gt-RECORDS.true (c.fill.ensures.after (λ y e. e)) (c.fill-then-slots-gt-RECORDS.ensures.after (λ y e. e))

pub returns : goal.returns
returns c = staged-asked _ _ _ _ _ _ _ _ _ (simp length-take (omega arith)) c.layout.ensures
