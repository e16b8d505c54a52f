-- The laws of the footer: what it says of all rows, and of the notes out of tolerance, which are a block.
--     said_of-all              the bytes of a sentence with a number in it
--     within-.., told-.., footer-..    each case
--     no_more                  no note to come
--     blocks                   the block of a body between an affix before it and one behind it
-- Assumes nothing.
use Prim.Native.Nat.{ℕ, ◌+◌, ◌≤◌}
use native.Mathlib.Omega.{arith}
use mathlib.Core.Path.{◌≡◌, ap, ◌∙◌, subst}
use mathlib.Core.Bool.{true}
use mathlib.Core.List.{List, [], ◌∷◌, ◌++◌, map}
use lib.ListN.{length, take, drop, replicate}
use borrow.Author.Tests.{eq-eqb, ne_eqb}
use Rattle.table.specs.Document.{Doc, nil, hardline}
use Rattle.table.specs.declared.NodeNo.{NodeNo}
use Rattle.build.specs.declared.Counts.{Counts}
use Rattle.build.specs.Outcome.{Made}
use Rattle.build.specs.Outcome.{outcome}
use Rattle.build.specs.Documents.{concat_doc, intersperse_doc}
use Rattle.build.specs.Promise.{doc_at}
use Rattle.block.specs.declared.Block.{Block}
use Rattle.block.specs.Block.{format_made}
use Rattle.block.specs.Documents.{block_doc}
use Rattle.block.proofs.Alternatives.{format_promise}
use Rattle.buffer.specs.Parts.{lines}
use Rattle.results.specs.Standing.{row_count, out_notes, Names}
use Rattle.std.specs.Prelude.{Option, None}
use Rattle.results.specs.declared.tolerance.Out.{Out}
use Rattle.buffer.proofs.Reading.{done}
use Rattle.buffer.specs.Placing.{Placed}
use Rattle.append.specs.Decimal.{decimal}
use Rattle.words.specs.Documents.{leaf_doc}
use Rattle.words.specs.Build.{Is, Gives}
use Rattle.footer.specs.Documents.{one_text, all_text, within_text, within_doc, comma_doc, headed_doc, told_doc, footer_doc}
use Rattle.words.proofs.Chain.{gives}
use Rattle.buffer.proofs.Placing.{place-adds, placed-length, then-adds, written_at}
use Rattle.footer.proofs.Digits.{number_fits}

-- ---- all within tolerance

-- three parts put into a row of blanks, a number's digits in the middle
pub said_of-all : (n : ℕ) (a b : List ℕ) {part : List ℕ} → part ≡ decimal n
    → {o₁ o₂ o₃ : List ℕ} {r₁ r₂ r₃ : ℕ} → Placed (replicate 64 32) 0 a o₁ r₁ → Placed o₁ r₁ part o₂ r₂ → Placed o₂ r₂ b o₃ r₃
    → length a + length b ≤ 44 → take r₃ o₃ ≡ a ++ decimal n ++ b
said_of-all n a b {part} is {o₁} {o₂} {o₃} {r₁} {r₂} {r₃} p q z h =
    let blank : List ℕ = replicate 64 32 in
    let l = placed-length p (omega arith) in
    let l₂ = placed-length q l.1 in
    let two = then-adds blank o₁ o₂ a part 0 r₁ r₂ (place-adds p) l.0 (place-adds q) in
    let three = then-adds blank o₂ o₃ (a ++ part) b 0 r₂ r₃ two (l₂.0 ∙ l.0) (place-adds z) in
    written_at 64 0 (a ++ part ++ b) o₃ r₃ (omega arith) three ∙ ap (λ (m : List ℕ). take 64 (a ++ m ++ b)) is ∙ number_fits n a b h

module _ (rows : ℕ) where
  pub within_one : rows ≡ 1 → leaf_doc one_text ≡ within_doc rows
  unfolding within_doc
  within_one e = rw (eq-eqb rows 1 e)

  pub within_all : (rows ≡ 1 → ⊥) → leaf_doc (all_text ++ decimal rows ++ within_text) ≡ within_doc rows
  unfolding within_doc
  within_all e = rw (ne_eqb rows 1 e)

-- ---- so many out of tolerance

module _ (rows : ℕ) (notes : List (List ℕ)) {out : ℕ} where
  pub told_none : out ≡ 0 → out ≡ length notes → within_doc rows ≡ told_doc rows notes
  unfolding told_doc
  told_none z are = rw (← are, eq-eqb out 0 z)

  pub told-some : (out ≡ 0 → ⊥) → out ≡ length notes → headed_doc (intersperse_doc (map leaf_doc notes) comma_doc) ≡ told_doc rows notes
  unfolding told_doc
  told-some z are = rw (← are, ne_eqb out 0 z)

module _ {rows : ℕ} (ls : List (List ℕ)) where
  pub footer-none : rows ≡ 0 → rows ≡ row_count ls → nil ≡ footer_doc ls
  unfolding footer_doc
  footer-none z are = rw (← are, eq-eqb rows 0 z)

  pub footer-some : (rows ≡ 0 → ⊥) → rows ≡ row_count ls → concat_doc (hardline ∷ told_doc rows (out_notes ls) ∷ hardline ∷ []) ≡ footer_doc ls
  unfolding footer_doc
  footer-some z are = rw (← are, ne_eqb rows 0 z)

-- ---- the notes

pub no_more : {r : Option Out} (s : List ℕ) (at : ℕ) → r ≡ None → Names r s at → out_notes (lines (drop at s)) ≡ []
no_more s at e n = subst (λ (r : Option Out). Names r s at) e n

-- ---- the block

module _ {c : Counts} {t x : List ℕ} {r : Made} {t' : List ℕ} {a b m : NodeNo} {d e f : Doc} (i : Is c t x a d) (j : Is c t x b e) (k : Is c t x m f) where
  pub blocks : (block : Block) → block.body ≡ a
      → outcome r t' x ≡ format_made c t x block (b.0 ∷ []) (m.0 ∷ []) (true ∷ [])
      → Gives c t x r t' x (block_doc block.amount.0 block.way d (e ∷ []) (f ∷ []) (true ∷ []))
  blocks block body is =
      let body_is : doc_at c t x block.body.0 ≡ d = ap (λ (z : NodeNo). doc_at c t x z.0) body ∙ i.unfolds in
      gives is (λ q. block_doc block.amount.0 block.way (body_is q) (j.unfolds q ∷ []) (k.unfolds q ∷ []) (true ∷ [])) (format_promise c t x block (b.0 ∷ []) (m.0 ∷ []) (true ∷ []))
