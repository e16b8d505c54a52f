-- The document that the sheet of an input is: its lines in order, then the footer. The functions of src/ are held to it.
-- A row is row/specs/Documents' row_doc, the words of a heading words/specs/Documents' filled_doc, the footer footer/specs/Documents' footer_doc.
use Rattle.std.specs.Prelude.{ℕ, List, map, take, drop, Result, Ok, Err}
use Rattle.table.specs.Document.{Doc, nil, hardline}
use Rattle.build.specs.Documents.{append_doc, concat_doc}
use Rattle.buffer.specs.Parts.{lines, body_end}
use Rattle.results.specs.Pallets.{parsed}
use Rattle.results.specs.declared.Fault.{Fault}
use Rattle.results.specs.declared.Line.{Line}
use Rattle.results.specs.declared.Line.TheVariants.{Empty, Heading, Row}
use Rattle.words.specs.Widths.{width}
use Rattle.words.specs.Documents.{filled_doc}
use Rattle.row.specs.Documents.{row_doc}
use Rattle.footer.specs.Documents.{footer_doc}

-- ---- a line

-- by what it says; a heading goes without its `#`, and a line at fault adds nothing
unfoldable pub says_doc : List ℕ → Result Line Fault → Doc
says_doc line (Ok Empty) = hardline
says_doc line (Ok Heading) = append_doc (filled_doc width (drop 1 line)) hardline
says_doc line (Ok (Row p)) = row_doc line p
says_doc line (Err fault) = nil

-- without the carriage return at its end
unfoldable pub part_doc : List ℕ → Doc
part_doc line = let body = take (body_end line) line in says_doc body (parsed body)

-- ---- the sheet

-- every line in order
unfoldable pub lines_doc : List ℕ → Doc
lines_doc input = concat_doc (map part_doc (lines input))

unfoldable pub sheet_doc : List ℕ → Doc
sheet_doc input = append_doc (lines_doc input) (footer_doc (lines input))
