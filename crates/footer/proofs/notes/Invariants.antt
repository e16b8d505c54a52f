-- `footer::notes` meets its contract: the notes so far and those to come are all. Assumes nothing.
use Prim.Native.Nat.{ℕ, ◌+◌, ◌-◌}
use mathlib.Core.Path.{◌≡◌}
use mathlib.Core.List.{List, map}
use lib.ListN.{length, drop}
use Rattle.table.specs.Document.{nil}
use Rattle.build.specs.Documents.{intersperse_doc}
use Rattle.buffer.specs.Parts.{lines}
use Rattle.results.specs.Standing.{out_notes}
use Rattle.words.specs.Documents.{leaf_doc}
use Rattle.footer.specs.Documents.{comma_doc}
use Rattle.words.specs.Build.{Is}
use Rattle.words.proofs.Filling.{Adding}
use Rattle.footer.proofs.notes.Given as goal

abbrev pub invariant-loop-out : goal.invariant-loop-out
invariant-loop-out l =
    let text_of = λ (notes : List (List ℕ)). intersperse_doc (map leaf_doc notes) comma_doc in
    let all = out_notes (lines l.input) in
    let to_come = out_notes (lines (drop l.at l.input)) in
    (length l.table ≡ length l.initial.table)
    ×
    (length l.text ≡ length l.initial.text)
    ×
    (Is l.initial.c l.initial.table l.initial.text l.initial.n nil
    → Is l.initial.c l.initial.table l.initial.text l.comma comma_doc
    → Adding l.initial.c l.initial.table l.initial.text comma_doc (text_of all) to_come l.c l.table l.text l.n l.between)

abbrev pub decreases-loop-out : goal.decreases-loop-out
decreases-loop-out l = (length l.input + 1) - l.at
