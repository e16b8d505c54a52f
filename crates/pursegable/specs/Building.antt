-- What a constructor or a block layout by number promises: the answer, and the whole of table, text and the builder's words afterwards.
-- Assumes nothing.
use Rattle.std.specs.Prelude.{ℕ, Bool, not, ◌&&◌, List, [], ◌∷◌, eqb, leb, length, get_or, drop}
use Rattle.choice.specs.Pick.{pick}
use Rattle.build.specs.declared.Counts.{Counts}
use Rattle.build.specs.Outcome.{Made}
use Rattle.std.specs.Prelude.{Ok, Err}
use Rattle.build.specs.Draft.{counts_of}
use Rattle.build.specs.Outcome.{Outcome, number}
use Rattle.build.specs.Constructors as c
use Rattle.block.specs.declared.Block.{Block}

-- the builder's words: nodes in use, bytes in use, the node made
abbrev pub counts_words : ℕ
counts_words = 3

-- the answer, and what is left
pub record Left : Type 0 where
  pub answer : ℕ
  pub table : List ℕ
  pub text : List ℕ
  pub counts : List ℕ

abbrev pub left : ℕ → List ℕ → List ℕ → List ℕ → Left
left answer table text counts = record { answer = answer; table = table; text = text; counts = counts }

abbrev pub answer_of : Made → ℕ
answer_of (Ok (c, n)) = 0
answer_of (Err why) = number why

-- a refusal leaves them; words past the third are left in any case
abbrev pub counts_after : Made → List ℕ → List ℕ
counts_after (Ok (c, n)) counts = c.nodes ∷ c.bytes ∷ n.0 ∷ drop counts_words counts
counts_after (Err why) counts = counts

abbrev pub left_by : Outcome → List ℕ → Left
left_by o counts = left (answer_of o.made) o.table o.text (counts_after o.made counts)

-- fewer than three words are answer 1
unfoldable pub built : (Counts → List ℕ → List ℕ → Outcome) → List ℕ → List ℕ → List ℕ → Left
built f table text counts =
    pick (leb counts_words (length counts)) (left_by (f (counts_of (get_or counts 0 0) (get_or counts 1 0)) table text) counts) (left 1 table text counts)

-- ---- what `make` makes: a kind's number for its constructor, and numbers after the kinds' for the composed ones

-- those that leave the text as it is
unfoldable pub reading_made : ℕ → ℕ → ℕ → ℕ → Counts → List ℕ → List ℕ → Outcome
reading_made what a b d s table text =
    pick (eqb what 0) (c.nil_made s table text)
    (pick (eqb what 1) (c.append_made s table text a b)
    (pick (eqb what 2) (c.group_made s table text a)
    (pick (eqb what 3) (c.flat_alt_made s table text a b)
    (pick (eqb what 4) (c.nest_made s table text a b d)
    (pick (eqb what 5) (c.hardline_made s table text)
    (pick (eqb what 7) (c.annotate_made s table text a b)
    (pick (eqb what 8) (c.union_made s table text a b)
    (pick (eqb what 9) (c.align_made s table text a)
    (pick (eqb what 10) (c.fail_made s table text)
    (pick (eqb what 13) (c.line₀_made s table text)
    (pick (eqb what 15) (c.softline₀_made s table text)
    (pick (eqb what 16) (c.hang_made s table text a b d)
    (c.enclose_made s table text a b d)))))))))))))

-- and those that write blanks into it
unfoldable pub any_made : ℕ → ℕ → ℕ → ℕ → Counts → List ℕ → List ℕ → Outcome
any_made what a b d s table text =
    pick (eqb what 11) (c.space_made s table text)
    (pick (eqb what 12) (c.line_made s table text)
    (pick (eqb what 14) (c.softline_made s table text)
    (pick (eqb what 17) (c.indent_made s table text a b)
    (reading_made what a b d s table text))))

-- numbers to 18; Text, number 6, has a function of its own
abbrev pub known : ℕ → Bool
known what = leb what 18 && not (eqb what 6)

-- counts below three words are answer 1; then an unknown constructor is answer 2
unfoldable pub makes : ℕ → ℕ → ℕ → ℕ → List ℕ → List ℕ → List ℕ → Left
makes what a b d table text counts =
    pick (leb counts_words (length counts) && not (known what)) (left 2 table text counts) (built (any_made what a b d) table text counts)

-- ---- block layouts

abbrev pub block_from : ℕ → ℕ → ℕ → Block
block_from body amount way = record { body = record { 0 = body }; amount = record { 0 = amount }; way = way }

-- a byte that is not 0 is a flag set
unfoldable pub flags_of : List ℕ → List Bool
flags_of [] = []
flags_of (b ∷ bs) = not (eqb b 0) ∷ flags_of bs
