-- The documents of a text: a Text of its bytes, and its words filled.
use Rattle.std.specs.Prelude.{ℕ, List, map, length, drop}
use Rattle.table.specs.Document.{Doc}
use Rattle.build.specs.Documents.{text_doc, softline_doc, intersperse_doc}
use Rattle.buffer.specs.Parts.{characters, blanks}
use Rattle.words.specs.Words.{words_on}

-- a Text, a column for each character
abbrev pub leaf_doc : List ℕ → Doc
leaf_doc bytes = text_doc bytes (characters bytes)

-- the words of a text, filled by softlines on lines of so many columns
unfoldable pub filled_doc : ℕ → List ℕ → Doc
filled_doc most s = intersperse_doc (map leaf_doc (words_on most (length s) (drop (blanks s) s))) softline_doc
