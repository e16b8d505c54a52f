-- What each constructor answers and leaves, for any counts and any lent table and text.
use Rattle.std.specs.Prelude.{ℕ, Bool, true, ◌&&◌, List, [], ◌∷◌, ltb, leb}
use Rattle.table.specs.Fault.{columns_right}
use Rattle.build.specs.declared.Counts.{Counts}
use Rattle.build.specs.Draft.{Draft, Built}
use Rattle.build.specs.Outcome.{Outcome, made}
use Rattle.build.specs.Parts as parts

-- an operand is a present node
abbrev pub has : Counts → ℕ → Bool
has c n = ltb n c.nodes

unfoldable pub has_all : Counts → List ℕ → Bool
has_all c [] = true
has_all c (n ∷ ns) = has c n && has_all c ns

-- amount 0 to 1,000; 0 adds, 1 subtracts
abbrev pub nest_right : ℕ → ℕ → Bool
nest_right amount way = leb amount 1000 && leb way 1

module _ (c : Counts) (table text : List ℕ) where
  -- no operand, nothing to be out of range
  abbrev pub plain_made : (Draft → Built) → Outcome
  plain_made f = made c table text true true true f

  abbrev pub one_made : ℕ → (Draft → Built) → Outcome
  one_made n f = made c table text (has c n) true true f

  abbrev pub two_made : ℕ → ℕ → (Draft → Built) → Outcome
  two_made a b f = made c table text (has c a && has c b) true true f

  abbrev pub nil_made : Outcome
  nil_made = plain_made parts.nil

  abbrev pub append_made : ℕ → ℕ → Outcome
  append_made a b = two_made a b (λ s. parts.append s a b)

  abbrev pub group_made : ℕ → Outcome
  group_made n = one_made n (λ s. parts.group s n)

  abbrev pub flat_alt_made : ℕ → ℕ → Outcome
  flat_alt_made broken flat = two_made broken flat (λ s. parts.flat_alt s broken flat)

  abbrev pub nest_made : ℕ → ℕ → ℕ → Outcome
  nest_made n amount way = made c table text (has c n) (nest_right amount way) true (λ s. parts.nest s n amount way)

  abbrev pub hardline_made : Outcome
  hardline_made = plain_made parts.hardline

  abbrev pub text_made : List ℕ → ℕ → Outcome
  text_made bytes columns = made c table text true true (columns_right bytes columns) (λ s. parts.text s bytes columns)

  abbrev pub annotate_made : ℕ → ℕ → Outcome
  annotate_made n label = one_made n (λ s. parts.annotate s n label)

  abbrev pub union_made : ℕ → ℕ → Outcome
  union_made first second = two_made first second (λ s. parts.union s first second)

  abbrev pub align_made : ℕ → Outcome
  align_made n = one_made n (λ s. parts.align s n)

  abbrev pub fail_made : Outcome
  fail_made = plain_made parts.fail

  abbrev pub space_made : Outcome
  space_made = plain_made parts.space

  abbrev pub line_made : Outcome
  line_made = plain_made parts.line

  abbrev pub line₀_made : Outcome
  line₀_made = plain_made parts.line₀

  abbrev pub softline_made : Outcome
  softline_made = plain_made parts.softline

  abbrev pub softline₀_made : Outcome
  softline₀_made = plain_made parts.softline₀

  abbrev pub hang_made : ℕ → ℕ → ℕ → Outcome
  hang_made n amount way = made c table text (has c n) (nest_right amount way) true (λ s. parts.hang s n amount way)

  abbrev pub indent_made : ℕ → ℕ → Outcome
  indent_made n by = made c table text (has c n) (leb by 1000) true (λ s. parts.indent s n by)

  abbrev pub enclose_made : ℕ → ℕ → ℕ → Outcome
  enclose_made n before after = made c table text (has_all c (before ∷ n ∷ after ∷ [])) true true (λ s. parts.enclose s n before after)

  abbrev pub concat_made : List ℕ → Outcome
  concat_made ns = made c table text (has_all c ns) true true (λ s. parts.concat s ns)

  -- the separator is an operand even with none or one to join
  abbrev pub intersperse_made : List ℕ → ℕ → Outcome
  intersperse_made ns separator = made c table text (has c separator && has_all c ns) true true (λ s. parts.intersperse s ns separator)
