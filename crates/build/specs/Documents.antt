-- The document that each constructor's name says, up to document 01's simplifications.
use Rattle.std.specs.Prelude.{ℕ, Bool, true, false, ◌||◌, List, [], ◌∷◌, length, replicate, eqb}
use Rattle.choice.specs.Pick.{pick}
use Rattle.table.specs.Node.{way_of}
use Rattle.buffer.specs.Utf8.{ascii}
use Rattle.table.specs.Document.{Doc, nil, append, group, flat_alt, nest, hardline, text, annotated, union, align, fail}

abbrev pub is_nil_doc : Doc → Bool
is_nil_doc nil = true
is_nil_doc (append a b) = false
is_nil_doc (group a) = false
is_nil_doc (flat_alt a b) = false
is_nil_doc (nest a k way) = false
is_nil_doc hardline = false
is_nil_doc (text bytes columns) = false
is_nil_doc (annotated a l) = false
is_nil_doc (union a b) = false
is_nil_doc (align a) = false
is_nil_doc fail = false

-- Group gives back Group, Nil and Text with all bytes below 128
abbrev pub stays_doc : Doc → Bool
stays_doc nil = true
stays_doc (append a b) = false
stays_doc (group a) = true
stays_doc (flat_alt a b) = false
stays_doc (nest a k way) = false
stays_doc hardline = false
stays_doc (text bytes columns) = ascii bytes
stays_doc (annotated a l) = false
stays_doc (union a b) = false
stays_doc (align a) = false
stays_doc fail = false

-- Append with a Nil gives the other, left looked at first
unfoldable pub append_doc : Doc → Doc → Doc
append_doc a b = pick (is_nil_doc a) b (pick (is_nil_doc b) a (append a b))

unfoldable pub group_doc : Doc → Doc
group_doc a = pick (stays_doc a) a (group a)

-- Nest gives back Nil, and anything at amount 0
unfoldable pub nest_doc : Doc → ℕ → ℕ → Doc
nest_doc a amount way = pick (is_nil_doc a || eqb amount 0) a (nest a amount (way_of way))

-- empty text is Nil
unfoldable pub text_doc : List ℕ → ℕ → Doc
text_doc bytes columns = pick (eqb (length bytes) 0) nil (text bytes columns)

-- ---- composed

abbrev pub space_doc : Doc
space_doc = text_doc (32 ∷ []) 1

abbrev pub line_doc : Doc
line_doc = flat_alt hardline space_doc

abbrev pub line₀_doc : Doc
line₀_doc = flat_alt hardline nil

abbrev pub softline_doc : Doc
softline_doc = group_doc line_doc

abbrev pub softline₀_doc : Doc
softline₀_doc = group_doc line₀_doc

abbrev pub hang_doc : Doc → ℕ → ℕ → Doc
hang_doc a amount way = align (nest_doc a amount way)

abbrev pub indent_doc : Doc → ℕ → Doc
indent_doc a by = hang_doc (append_doc (text_doc (replicate by 32) by) a) by 0

abbrev pub enclose_doc : Doc → Doc → Doc → Doc
enclose_doc a before after = append_doc (append_doc before a) after

unfoldable pub joined_doc : Doc → List Doc → Doc
joined_doc a [] = a
joined_doc a (b ∷ rest) = joined_doc (append_doc a b) rest

unfoldable pub concat_doc : List Doc → Doc
concat_doc [] = nil
concat_doc (a ∷ rest) = joined_doc a rest

unfoldable pub separated_doc : Doc → List Doc → List Doc
separated_doc separator [] = []
separated_doc separator (a ∷ rest) = separator ∷ a ∷ separated_doc separator rest

unfoldable pub intersperse_doc : List Doc → Doc → Doc
intersperse_doc [] separator = nil
intersperse_doc (a ∷ rest) separator = joined_doc a (separated_doc separator rest)
