-- Nothing is cut: 64 bytes have room for the fields of a line that is a row.
--     few_bytes                a character has at most four bytes
--     Sound, row-sound         what is known of a line that is a row
--     fields_fit, row-bytes    the room that they take
-- Assumes nothing.
use Prim.Native.Nat.{ℕ, zero, suc, ◌+◌, ◌-◌, ◌*◌, ◌≤◌, ◌<◌}
use native.Mathlib.Omega.{arith}
use mathlib.Core.Path.{◌≡◌, refl, ap, ◌∙◌, subst}
use mathlib.Core.Bool.{Bool, true, false, ◌&&◌, ◌||◌}
use mathlib.Core.List.{List, [], ◌∷◌}
use lib.ListN.{length, get_or, take, drop, replicate, length-append, length-replicate}
use lib.Seq.{length-take-le, take_all}
use lib.Dec.{eqb, leb, ltb}
use borrow.Author.Tests.{le-leb, lt-leb, leb-true, ltb-false}
use Rattle.choice.specs.Pick.{pick}
use Rattle.buffer.specs.Utf8.{Range, to, within, tail, Start, start, follow, never, owed, well_formed}
use Rattle.choice.proofs.Tests.{and-true}
use Rattle.buffer.specs.Parts.{index_of, goes_on, characters, blank, controls, between}
use Rattle.results.specs.Numbers.{number_of, tenths_add, tenths_of}
use Rattle.results.specs.Numbers as numbers
use Rattle.results.specs.Pallets.{separator, cuts_at, fields_of, measured, pallet_of, pallet_at, said, parsed}
use Rattle.results.specs.declared.Pallet.{Pallet}
use Rattle.results.specs.declared.Fault.{Fault}
use Rattle.results.specs.declared.Fault.TheVariants.{TooLong, NotUtf8, Control, NoForce, NoPluck, NoRemark, Note, Force, Pluck}
use Rattle.std.specs.Prelude.{Option, Some, None, Result, Ok, Err}
use Rattle.results.specs.declared.Line.{Line}
use Rattle.results.specs.declared.Line.TheVariants.{Empty, Heading, Row}
use Rattle.buffer.specs.Placing.{Adds}
use Rattle.buffer.proofs.Reading.{index-within}
use Rattle.buffer.proofs.Placing.{written_at}
use Rattle.row.specs.Fields.{field, right, fields}

-- ---- characters

module _ (b : ℕ) (rs : List Range) where
  -- a character starts with no byte that goes on with one, and goes on with at most three
  abbrev Starts : Type 0
  Starts = (length rs ≤ 3) × (goes_on b ≡ false)

  low : within (to 0x00 0x7F) b ≡ true → goes_on b ≡ false
  low e = rw (lt-leb 128 b (omega (arith, leb-true b 0x7F (and-true (leb 0 b) (leb b 0x7F) e).1)))

  high : (r : Range) → 191 < r.low → within r b ≡ true → goes_on b ≡ false
  high r h e =
      let l = leb-true r.low b (and-true (leb r.low b) (leb b r.high) e).0 in
      rw (le-leb 128 b (omega arith), lt-leb b 191 (omega arith))

  one : (r : Range) (xs : List Range) (rest : Start) → length xs ≤ 3 → (within r b ≡ true → goes_on b ≡ false) → (rest ≡ follow rs → Starts) → pick (within r b) (follow xs) rest ≡ follow rs → Starts
  one r xs rest l f g = go (within r b) refl
    where
      go : (q : Bool) → within r b ≡ q → pick q (follow xs) rest ≡ follow rs → Starts
      go true w e = let same : xs ≡ rs = cc in (subst (λ (z : List Range). length z ≤ 3) same l, f w)
      go false w e = g e

  starts : start b ≡ follow rs → Starts
  starts =
      one (to 0x00 0x7F) [] _ (omega arith) low
      (one (to 0xC2 0xDF) (tail ∷ []) _ (omega arith) (high (to 0xC2 0xDF) (omega arith))
      (one (to 0xE0 0xE0) (to 0xA0 0xBF ∷ tail ∷ []) _ (omega arith) (high (to 0xE0 0xE0) (omega arith))
      (one (to 0xE1 0xEC) (tail ∷ tail ∷ []) _ (omega arith) (high (to 0xE1 0xEC) (omega arith))
      (one (to 0xED 0xED) (to 0x80 0x9F ∷ tail ∷ []) _ (omega arith) (high (to 0xED 0xED) (omega arith))
      (one (to 0xEE 0xEF) (tail ∷ tail ∷ []) _ (omega arith) (high (to 0xEE 0xEF) (omega arith))
      (one (to 0xF0 0xF0) (to 0x90 0xBF ∷ tail ∷ tail ∷ []) _ (omega arith) (high (to 0xF0 0xF0) (omega arith))
      (one (to 0xF1 0xF3) (tail ∷ tail ∷ tail ∷ []) _ (omega arith) (high (to 0xF1 0xF3) (omega arith))
      (one (to 0xF4 0xF4) (to 0x80 0x8F ∷ tail ∷ tail ∷ []) _ (omega arith) (high (to 0xF4 0xF4) (omega arith))
      (λ e. let z : ◌≡◌ {A = ℕ} 0 1 = cc in absurd (omega arith))))))))))

-- at most four bytes a character, at the front of what is well-formed
few_bytes : (k : ℕ) (rs : List Range) (bs : List ℕ) → owed rs bs ≡ true → length (take k bs) ≤ length rs + 4 * characters (take k bs)
unfolding owed characters
few_bytes zero rs bs e = omega arith
few_bytes (suc k) [] [] e = omega arith
few_bytes (suc k) (r ∷ rs) [] e = omega arith
few_bytes (suc k) [] (b ∷ bs) e = go (start b) refl (λ rs. few_bytes k rs bs) e
  where
    go : (s : Start) → start b ≡ s
        → ((rs : List Range) → owed rs bs ≡ true → length (take k bs) ≤ length rs + 4 * characters (take k bs))
        → elim s as (λ x. Bool) [ follow rs ↦ owed rs bs | never ↦ false ] ≡ true
        → suc (length (take k bs)) ≤ 0 + 4 * pick (goes_on b) (characters (take k bs)) (suc (characters (take k bs)))
    go (follow rs) w rest e = let f = starts b rs w in rw f.1 (omega (arith, rest rs e, f.0))
    go never w rest e = let z : ◌≡◌ {A = ℕ} 0 1 = cc in absurd (omega arith)
few_bytes (suc k) (r ∷ rs) (b ∷ bs) e = go (goes_on b) (few_bytes k rs bs (and-true (within r b) (owed rs bs) e).1)
  where
    go : (q : Bool) → length (take k bs) ≤ length rs + 4 * characters (take k bs) → suc (length (take k bs)) ≤ suc (length rs) + 4 * pick q (characters (take k bs)) (suc (characters (take k bs)))
    go true h = omega arith
    go false h = omega arith

-- ---- a line that is a row

-- a choice that is a row is the arm that can be one
module _ {p : Pallet} (q : Bool) (x y : Result Line Fault) (no : y ≡ Ok (Row p) → ⊥) where
  other : pick q y x ≡ Ok (Row p) → (q ≡ false) × (x ≡ Ok (Row p))
  other = go q
    where
      go : (q : Bool) → pick q y x ≡ Ok (Row p) → (q ≡ false) × (x ≡ Ok (Row p))
      go true e = absurd (no e)
      go false e = (refl, e)

  this : pick q x y ≡ Ok (Row p) → (q ≡ true) × (x ≡ Ok (Row p))
  this = go q
    where
      go : (q : Bool) → pick q x y ≡ Ok (Row p) → (q ≡ true) × (x ≡ Ok (Row p))
      go true e = (refl, e)
      go false e = absurd (no e)

not_bad : {p : Pallet} (f : Fault) → Err f ≡ Ok (Row p) → ⊥
not_bad f e = let z : ◌≡◌ {A = ℕ} 0 1 = cc in omega arith

number_short : (s : List ℕ) (n : ℕ) → number_of s ≡ Some n → length s ≤ 4
unfolding number_of
number_short s n = go (leb 1 (length s) && leb (length s) 4) refl
  where
    go : (q : Bool) → (leb 1 (length s) && leb (length s) 4) ≡ q → pick q (numbers.digits 0 s) None ≡ Some n → length s ≤ 4
    go true w e = leb-true (length s) 4 (and-true (leb 1 (length s)) (leb (length s) 4) w).1
    go false w e = let z : ◌≡◌ {A = ℕ} 0 1 = cc in absurd (omega arith)

tenths-short : (s : List ℕ) (n : ℕ) → tenths_of s ≡ Some n → length s ≤ 4
unfolding tenths_of
tenths-short s n = go (leb 3 (length s) && leb (length s) 4 && point) refl
  where
    point : Bool
    point = eqb (get_or s (length s - 2) 0) 46 || eqb (get_or s (length s - 2) 0) 44

    go : (q : Bool) → (leb 3 (length s) && leb (length s) 4 && point) ≡ q → pick q (tenths_add (number_of (take (length s - 2) s)) (number_of (drop (length s - 1) s))) None ≡ Some n → length s ≤ 4
    go true w e = leb-true (length s) 4 (and-true (leb 3 (length s)) (leb (length s) 4) (and-true (leb 3 (length s) && leb (length s) 4) point w).0).1
    go false w e = let z : ◌≡◌ {A = ℕ} 0 1 = cc in absurd (omega arith)

-- a line that is a row has at most 200 bytes, a note of at most twenty, a force and a pluck point of at most four
pub record Sound (s : List ℕ) (p : Pallet) : Type 0 where
  pub short : length s ≤ 200
  pub note : length (field s) ≤ 20
  pub force : index_of 59 (drop p.force s) ≤ 4
  pub pluck : index_of 59 (drop p.pluck s) ≤ 4

module _ (s : List ℕ) (p : Pallet) (short : length s ≤ 200) (formed : owed [] s ≡ true) where
  abbrev first : ℕ
  first = separator s 0

  abbrev second : ℕ
  second = separator s (first + 1)

  abbrev third : ℕ
  third = separator s (second + 1)

  -- a part up to the next separator has as many bytes as stand before it
  part-size : (from : ℕ) → length (between s from (separator s from)) ≡ index_of 59 (drop from s)
  part-size from =
      let same : separator s from - from ≡ index_of 59 (drop from s) = omega arith in
      rw same (length-take-le (index_of 59 (drop from s)) (drop from s) (index-within 59 (drop from s)))

  of_amounts : characters (take first s) ≤ 5 → (force pluck : Option ℕ) → number_of (between s (first + 1) second) ≡ force → tenths_of (between s (second + 1) third) ≡ pluck → measured first second third force pluck ≡ Ok (Row p) → Sound s p
  unfolding measured
  of_amounts few None pluck i j e = absurd (not_bad Force e)
  of_amounts few (Some grams) None i j e = absurd (not_bad Pluck e)
  of_amounts few (Some grams) (Some point) i j e =
      let same : record { force = first + 1; pluck = second + 1; remark = third + 1; grams = grams; tenths = point } ≡ p = cc in
      let at-force : first + 1 ≡ p.force = ap (λ (q : Pallet). q.force) same in
      let at-pluck : second + 1 ≡ p.pluck = ap (λ (q : Pallet). q.pluck) same in
      let zero-add : first ≡ index_of 59 s = omega arith in
      record {
        short = short;
        note = subst (λ (k : ℕ). length (take k s) ≤ 20) zero-add (omega (arith, few_bytes first [] s formed));
        force = subst (λ (k : ℕ). index_of 59 (drop k s) ≤ 4) at-force (omega (arith, part-size (first + 1), number_short _ _ i));
        pluck = subst (λ (k : ℕ). index_of 59 (drop k s) ≤ 4) at-pluck (omega (arith, part-size (second + 1), tenths-short _ _ j));
      }

  of_fields : pallet_at s (fields_of s) ≡ Ok (Row p) → Sound s p
  unfolding pallet_at fields_of cuts_at pallet_of
  of_fields = go (leb (length s) first) (leb (length s) second) (leb (length s) third)
    where
      go : (x y z : Bool) → pallet_at s (pick x (Err NoForce) (pick y (Err NoPluck) (pick z (Err NoRemark) (Ok (record { first = first; second = second; third = third }))))) ≡ Ok (Row p) → Sound s p
      go true y z e = absurd (not_bad NoForce e)
      go false true z e = absurd (not_bad NoPluck e)
      go false false true e = absurd (not_bad NoRemark e)
      go false false false e =
          let a = other (blank (take first s)) _ (Err Note) (not_bad Note) e in
          let b = this (leb (characters (take first s)) 5) _ (Err Note) (not_bad Note) a.1 in
          of_amounts (leb-true _ 5 b.0) _ _ refl refl b.1

pub row-sound : (s : List ℕ) (p : Pallet) → parsed s ≡ Ok (Row p) → Sound s p
unfolding parsed said well_formed
row-sound s p e =
    let a = other (ltb 200 (length s)) _ (Err TooLong) (not_bad TooLong) e in
    let b = this (well_formed s) _ (Err NotUtf8) (not_bad NotUtf8) a.1 in
    let d = other (controls s) _ (Err Control) (not_bad Control) b.1 in
    let f = other (eqb (length s) 0) _ (Ok Empty) (λ x. let z : ◌≡◌ {A = ℕ} 0 1 = cc in omega arith) d.1 in
    let g = other (eqb (get_or s 0 0) 35) _ (Ok Heading) (λ x. let z : ◌≡◌ {A = ℕ} 0 1 = cc in omega arith) f.1 in
    of_fields s p (ltb-false 200 (length s) a.0) b.0 g.1

-- ---- the room it takes

module _ {s : List ℕ} {p : Pallet} (sound : Sound s p) where
  right-size : (t : List ℕ) (width : ℕ) (unit : List ℕ) → index_of 59 t ≤ width → length (right t width unit) ≡ width + length unit
  unfolding right
  right-size t width unit h = simp (length-append, length-replicate, length-take-le (index_of 59 t) t (index-within 59 t)) (omega arith)

  pub fields_fit : take 64 (fields s p) ≡ fields s p
  unfolding fields
  fields_fit =
      let force = right-size (drop p.force s) 4 (32 ∷ 103 ∷ []) sound.force in
      let pluck = right-size (drop p.pluck s) 6 (32 ∷ 109 ∷ 109 ∷ []) (omega (arith, sound.pluck)) in
      take_all 64 (fields s p) (simp (length-append, length-replicate) (omega (arith, sound.note)))

-- what is put of a row into 64 blanks is all of it
pub row-bytes : (s : List ℕ) (p : Pallet) → parsed s ≡ Ok (Row p) → {out : List ℕ} {r : ℕ} → Adds (replicate 64 32) 0 (fields s p) out r → {part : List ℕ} → part ≡ take r out → part ≡ fields s p
row-bytes s p row {out} {r} adds is = is ∙ written_at 64 0 (fields s p) out r (omega arith) adds ∙ fields_fit (row-sound s p row)
