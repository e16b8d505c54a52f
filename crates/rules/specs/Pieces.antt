-- What is laid, as pieces: the Texts and Hardlines that stand, in order. The output of a layout is its pieces, one after the other, and every
-- line feed in it is a Hardline's: `Fed`, proved of every call with answer 0 (proofs/Feeds). Which way through a document is taken is for the layout rules to say; here is what
-- stands on any of its ways. Assumes nothing.
use Rattle.std.specs.Prelude.{ℕ, ◌+◌, ◌≡◌, true, List, [], ◌∷◌, ◌++◌, replicate, eqb}
use Rattle.choice.specs.Pick.{pick}
use Rattle.buffer.specs.Utf8.{no_feed}
use Rattle.table.specs.Node.{Way}
use Rattle.table.specs.Unfold as tree
use Rattle.table.specs.Unfold.{Tree}

-- a Text's bytes, or a Hardline with its blanks
pub data Piece : Type 0 where
  text_piece : List ℕ → Piece
  hardline_piece : ℕ → Piece

abbrev pub bytes_of : Piece → List ℕ
bytes_of (text_piece bs) = bs
bytes_of (hardline_piece blanks) = 10 ∷ replicate blanks 32

-- one after the other
unfoldable pub all_bytes : List Piece → List ℕ
all_bytes [] = []
all_bytes (q ∷ qs) = bytes_of q ++ all_bytes qs

-- the pieces that stand when a document is laid
pub data Stand : Tree → List Piece → Type 0 where
  nil : {n : ℕ} → Stand (tree.nil n) []
  append : {n : ℕ} {a b : Tree} {ps qs : List Piece} → Stand a ps → Stand b qs → Stand (tree.append n a b) (ps ++ qs)
  group : {n : ℕ} {a : Tree} {ps : List Piece} → Stand a ps → Stand (tree.group n a) ps
  when-broken : {n : ℕ} {a b : Tree} {ps : List Piece} → Stand a ps → Stand (tree.flat_alt n a b) ps
  when-flat : {n : ℕ} {a b : Tree} {ps : List Piece} → Stand b ps → Stand (tree.flat_alt n a b) ps
  nest : {n k : ℕ} {way : Way} {a : Tree} {ps : List Piece} → Stand a ps → Stand (tree.nest n a k way) ps
  hardline : {n : ℕ} (blanks : ℕ) → Stand (tree.hardline n) (hardline_piece blanks ∷ [])
  text : {n cols : ℕ} {bs : List ℕ} → Stand (tree.text n bs cols) (text_piece bs ∷ [])
  annotated : {n l : ℕ} {a : Tree} {ps : List Piece} → Stand a ps → Stand (tree.annotated n a l) ps
  first-arm : {n : ℕ} {a b : Tree} {ps : List Piece} → Stand a ps → Stand (tree.union n a b) ps
  second-arm : {n : ℕ} {a b : Tree} {ps : List Piece} → Stand b ps → Stand (tree.union n a b) ps
  align : {n : ℕ} {a : Tree} {ps : List Piece} → Stand a ps → Stand (tree.align n a) ps

-- how many line feeds are among the bytes
unfoldable pub feeds : List ℕ → ℕ
feeds [] = 0
feeds (b ∷ bs) = pick (eqb b 10) 1 0 + feeds bs

-- how many Hardlines are among the pieces
unfoldable pub hardlines : List Piece → ℕ
hardlines [] = 0
hardlines (text_piece bs ∷ qs) = hardlines qs
hardlines (hardline_piece blanks ∷ qs) = 1 + hardlines qs

-- the pieces of Texts have no line feed
abbrev pub Unfed : List Piece → Type 0
Unfed [] = Unit {0}
Unfed (text_piece bs ∷ qs) = (no_feed bs ≡ true) × Unfed qs
Unfed (hardline_piece blanks ∷ qs) = Unfed qs

-- Every line feed in the output of a document is a Hardline's: the output is pieces that stand, one after the other, those of Texts have none, and
-- so there are as many line feeds as Hardlines that stand.
pub record Fed (t : Tree) (out : List ℕ) : Type 0 where
  pub pieces : List Piece
  pub stand : Stand t pieces
  pub output : out ≡ all_bytes pieces
  pub texts : Unfed pieces
  pub counted : feeds out ≡ hardlines pieces
