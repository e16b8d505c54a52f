-- The document of a row with its remark, beside it or below it.
use Rattle.std.specs.Prelude.{ℕ, List, [], ◌∷◌, length, eqb}
use Rattle.choice.specs.Pick.{pick}
use Rattle.table.specs.Document.{Doc, hardline, union}
use Rattle.build.specs.Documents.{append_doc, nest_doc, concat_doc}
use Rattle.buffer.specs.Parts.{between, skipped, trimmed}
use Rattle.words.specs.Widths.{below, wrapped}
use Rattle.words.specs.Documents.{leaf_doc, filled_doc}

-- what stands from a place on, without the blanks around it
abbrev pub remark : List ℕ → ℕ → List ℕ
remark s from = between s (skipped s from) (trimmed s)

-- the remark beside the row, behind two blanks
unfoldable pub beside_doc : Doc → List ℕ → Doc
beside_doc row says = concat_doc (row ∷ leaf_doc (32 ∷ 32 ∷ says) ∷ hardline ∷ [])

-- the remark filled on lines of its own, indented
unfoldable pub lower_doc : List ℕ → Doc
lower_doc says = nest_doc (append_doc hardline (filled_doc wrapped says)) below 0

-- the remark below the row
unfoldable pub below_doc : Doc → List ℕ → Doc
below_doc row says = concat_doc (row ∷ lower_doc says ∷ hardline ∷ [])

-- beside if it fits there, else below; a row without a remark just ends
unfoldable pub ended_doc : Doc → List ℕ → Doc
ended_doc row says = pick (eqb (length says) 0) (append_doc row hardline) (union (beside_doc row says) (below_doc row says))
