-- `chest::added` meets its contract. Assumes nothing.
use native.Mathlib.Omega.{arith}
use mathlib.Core.Path.{refl, sym}
use lib.Seq.{length-take-le}
use Rattle.buffer.proofs.Reading.{body-within}
use Rattle.words.proofs.Chain.{new, kept, after, refused, gives, appends}
use Rattle.chest.proofs.Sheets.{part-is}
use Rattle.chest.proofs.added.Goals as goal

pub part-requires : goal.part-requires
part-requires c = tt

pub returns-in_err-c : goal.returns-in_err-c
returns-in_err-c c = λ d s i. refused c.from_residual.result _ c.from_residual.ensures.1

pub append-requires : goal.append-requires
append-requires c = tt

pub returns : goal.returns
returns c =
    λ d s i.
    after
    (gives refl (part-is _ c.body.ensures) (c.part.ensures s))
    c.in_ok-c.was
    (λ b. appends (kept b i) (new b) c.append.ensures)
