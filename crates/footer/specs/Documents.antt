-- The document of the footer: the notes out of tolerance, or that none is.
use Rattle.std.specs.Prelude.{ℕ, true, List, [], ◌∷◌, ◌++◌, map, length, eqb}
use Rattle.choice.specs.Pick.{pick}
use Rattle.table.specs.Document.{Doc, nil, hardline}
use Rattle.build.specs.Documents.{append_doc, line_doc, softline_doc, concat_doc, intersperse_doc}
use Rattle.block.specs.Documents.{block_doc}
use Rattle.results.specs.Standing.{row_count, out_notes}
use Rattle.words.specs.Widths.{below}
use Rattle.words.specs.Documents.{leaf_doc}
use Rattle.append.specs.Decimal.{decimal}

-- "The pallet is within tolerance"
abbrev pub one_text : List ℕ
one_text = 84 ∷ 104 ∷ 101 ∷ 32 ∷ 112 ∷ 97 ∷ 108 ∷ 108 ∷ 101 ∷ 116 ∷ 32 ∷ 105 ∷ 115 ∷ 32 ∷ 119 ∷ 105 ∷ 116 ∷ 104 ∷ 105 ∷ 110 ∷ 32 ∷ 116 ∷ 111 ∷ 108 ∷ 101 ∷ 114 ∷ 97 ∷ 110 ∷ 99 ∷ 101 ∷ []

-- "All "
abbrev pub all_text : List ℕ
all_text = 65 ∷ 108 ∷ 108 ∷ 32 ∷ []

-- " pallets are within tolerance"
abbrev pub within_text : List ℕ
within_text = 32 ∷ 112 ∷ 97 ∷ 108 ∷ 108 ∷ 101 ∷ 116 ∷ 115 ∷ 32 ∷ 97 ∷ 114 ∷ 101 ∷ 32 ∷ 119 ∷ 105 ∷ 116 ∷ 104 ∷ 105 ∷ 110 ∷ 32 ∷ 116 ∷ 111 ∷ 108 ∷ 101 ∷ 114 ∷ 97 ∷ 110 ∷ 99 ∷ 101 ∷ []

-- "Out of tolerance:"
abbrev pub out_text : List ℕ
out_text = 79 ∷ 117 ∷ 116 ∷ 32 ∷ 111 ∷ 102 ∷ 32 ∷ 116 ∷ 111 ∷ 108 ∷ 101 ∷ 114 ∷ 97 ∷ 110 ∷ 99 ∷ 101 ∷ 58 ∷ []

-- that all of so many rows are within tolerance
unfoldable pub within_doc : ℕ → Doc
within_doc rows = pick (eqb rows 1) (leaf_doc one_text) (leaf_doc (all_text ++ decimal rows ++ within_text))

-- a comma and a place to break
abbrev pub comma_doc : Doc
comma_doc = append_doc (leaf_doc (44 ∷ [])) softline_doc

-- a block: what is named behind its heading, or below it
unfoldable pub headed_doc : Doc → Doc
headed_doc names = block_doc below 0 (append_doc line_doc names) (leaf_doc out_text ∷ []) (nil ∷ []) (true ∷ [])

-- of so many rows and the notes of those out of tolerance
unfoldable pub told_doc : ℕ → List (List ℕ) → Doc
told_doc rows notes = pick (eqb (length notes) 0) (within_doc rows) (headed_doc (intersperse_doc (map leaf_doc notes) comma_doc))

-- an empty line, what is told of the rows, and a Hardline; of no rows nothing
unfoldable pub footer_doc : List (List ℕ) → Doc
footer_doc ls = pick (eqb (row_count ls) 0) nil (concat_doc (hardline ∷ told_doc (row_count ls) (out_notes ls) ∷ hardline ∷ []))
