-- A sheet computed from the definitions: one pallet, its force out of tolerance, with a remark.
-- Assumes nothing.
use Prim.Native.Nat.{ℕ}
use mathlib.Core.Path.{◌≡◌, refl}
use mathlib.Core.List.{List, [], ◌∷◌}
use Rattle.table.specs.Node.{way_of}
use Rattle.table.specs.Document.{Doc, append, nest, hardline, text, annotated, union}
use Rattle.buffer.specs.Utf8.{owed, well_formed, every, ascii}
use Rattle.build.specs.Documents.{append_doc, group_doc, nest_doc, text_doc, joined_doc, concat_doc, separated_doc, intersperse_doc}
use Rattle.block.specs.Documents.{bare_doc, head_doc, tail_doc, core_doc, wraps_doc, alternative_doc, unions_doc, block_doc}
use Rattle.buffer.specs.Parts.{index_of, lines, body_end, characters, blank, controls, blanks, trimmed}
use Rattle.results.specs.Numbers.{digits, number_of, tenths_add, tenths_of}
use Rattle.results.specs.Tolerance.{label_of}
use Rattle.results.specs.Pallets.{cuts_at, fields_of, measured, pallet_of, pallet_at, said, parsed}
use Rattle.results.specs.Standing.{standing, standing_of, row_count, out_notes}
use Rattle.row.specs.Fields.{right, fields}
use Rattle.words.specs.Words.{together_on, words_on}
use Rattle.words.specs.Documents.{filled_doc}
use Rattle.row.specs.Remark.{beside_doc, lower_doc, below_doc, ended_doc}
use Rattle.row.specs.Documents.{marked_doc, row_doc}
use Rattle.chest.specs.Documents.{says_doc, part_doc, lines_doc, sheet_doc}
use Rattle.footer.specs.Documents.{headed_doc, told_doc, footer_doc}

-- "A;140;1.2;dull" and a line feed
input : List ℕ
input = 65 ∷ 59 ∷ 49 ∷ 52 ∷ 48 ∷ 59 ∷ 49 ∷ 46 ∷ 50 ∷ 59 ∷ 100 ∷ 117 ∷ 108 ∷ 108 ∷ 10 ∷ []

-- "A      140 g   1.2 mm"
row : Doc
row = text (65 ∷ 32 ∷ 32 ∷ 32 ∷ 32 ∷ 32 ∷ 32 ∷ 49 ∷ 52 ∷ 48 ∷ 32 ∷ 103 ∷ 32 ∷ 32 ∷ 32 ∷ 49 ∷ 46 ∷ 50 ∷ 32 ∷ 109 ∷ 109 ∷ []) 21

-- "dull"
remark : List ℕ
remark = 100 ∷ 117 ∷ 108 ∷ 108 ∷ []

-- the row with its mark, the remark beside it or below it; then the block that names it
sample : sheet_doc input ≡ append (annotated (union (append (append row (text (32 ∷ 32 ∷ remark) 6)) hardline) (append (append row (nest (append hardline (text remark 4)) 4 (way_of 0))) hardline)) 1) (append (append hardline (headed_doc (text (65 ∷ []) 1))) hardline)
unfolding input row remark sheet_doc lines_doc footer_doc told_doc part_doc says_doc row_doc marked_doc ended_doc beside_doc below_doc lower_doc
    filled_doc fields right blanks trimmed together_on words_on concat_doc joined_doc append_doc group_doc nest_doc text_doc separated_doc
    intersperse_doc lines body_end characters blank controls index_of digits number_of tenths_add tenths_of label_of cuts_at fields_of measured
    pallet_of pallet_at said parsed standing standing_of row_count out_notes owed well_formed every ascii headed_doc block_doc unions_doc alternative_doc
    head_doc tail_doc wraps_doc core_doc bare_doc
sample = refl
