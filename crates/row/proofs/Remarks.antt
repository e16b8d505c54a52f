-- The laws of a row's remark.
--     trim-within, ended-..      a row without a remark, and one with it
--     remark-fits                256 bytes have room for a remark
-- Assumes nothing.
use Prim.Native.Nat.{ℕ, suc, ◌-◌, ◌≤◌, ◌<◌}
use native.Mathlib.Omega.{arith}
use mathlib.Core.Path.{◌≡◌, ap, ap₂, ◌∙◌}
use mathlib.Core.Bool.{Bool, true, false, ◌&&◌}
use mathlib.Core.List.{List, [], ◌∷◌}
use lib.ListN.{length, take, drop, length-take, length-drop}
use lib.Seq.{take_all}
use lib.Dec.{eqb}
use borrow.Author.Tests.{eq-eqb, ne_eqb}
use Rattle.choice.specs.Pick.{pick}
use Rattle.table.specs.Document.{Doc, hardline, union}
use Rattle.build.specs.Documents.{append_doc}
use Rattle.buffer.specs.Parts.{skipped, trimmed}
use Rattle.row.specs.Remark.{remark, beside_doc, below_doc, ended_doc}

pub trim-within : (s : List ℕ) → trimmed s ≤ length s
unfolding trimmed
trim-within [] = omega arith
trim-within (b ∷ s) = go (eqb (trimmed s) 0 && eqb b 32) (trim-within s)
  where
    go : (t : Bool) → trimmed s ≤ length s → pick t 0 (suc (trimmed s)) ≤ suc (length s)
    go true h = omega arith
    go false h = omega arith

module _ (row : Doc) (s : List ℕ) (from end start : ℕ) (e : end ≡ trimmed s) (f : start ≡ skipped s from) where
  size : length (remark s from) ≡ end - start
  size = simp (length-take, length-drop) (omega (arith, trim-within s))

  pub ended-none : end ≤ start → append_doc row hardline ≡ ended_doc row (remark s from)
  unfolding ended_doc
  ended-none h = let none : length (remark s from) ≡ 0 = omega (arith, size) in rw (eq-eqb (length (remark s from)) 0 none)

  pub ended_some : start < end → union (beside_doc row (take (end - start) (drop start s))) (below_doc row (take (end - start) (drop start s))) ≡ ended_doc row (remark s from)
  unfolding ended_doc
  ended_some h =
      let some : length (remark s from) ≡ 0 → ⊥ = λ z. omega (arith, size) in
      let is : take (end - start) (drop start s) ≡ remark s from = ap₂ (λ (a b : ℕ). take (a - b) (drop b s)) e f in
      ap (λ (says : List ℕ). union (beside_doc row says) (below_doc row says)) is ∙ rw (ne_eqb (length (remark s from)) 0 some)

-- a remark, behind two blanks
pub remark-fits : (says : List ℕ) → length says ≤ 200 → take 256 (32 ∷ 32 ∷ says) ≡ 32 ∷ 32 ∷ says
remark-fits says h = take_all 256 (32 ∷ 32 ∷ says) (omega arith)
