-- The document of a row: its fields, its remark beside it or below it, its mark.
use Rattle.std.specs.Prelude.{ℕ, List, eqb}
use Rattle.choice.specs.Pick.{pick}
use Rattle.table.specs.Document.{Doc, annotated}
use Rattle.results.specs.Tolerance.{label_of}
use Rattle.results.specs.declared.Pallet.{Pallet}
use Rattle.words.specs.Documents.{leaf_doc}
use Rattle.row.specs.Remark.{remark, ended_doc}
use Rattle.row.specs.Fields.{fields}

-- the mark of a row out of tolerance
unfoldable pub marked_doc : ℕ → Doc → Doc
marked_doc label d = pick (eqb label 0) d (annotated d label)

-- note, force and pluck point in columns, the remark, and the mark
unfoldable pub row_doc : List ℕ → Pallet → Doc
row_doc line p = marked_doc (label_of p.grams p.tenths) (ended_doc (leaf_doc (fields line p)) (remark line p.remark))
