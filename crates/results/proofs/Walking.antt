-- The laws of walking an input by its lines, over plain lists.
--     rows-within, notes-within     there are no more rows, and no more notes, than lines
--     Counted, counted-..           rows and notes so far, with those to come
--     Passed, passed-.., found      lines passed over, and the row found
--     first_of                      what a caller has of it
-- Assumes nothing.
use Prim.Native.Nat.{ℕ, suc, ◌+◌, ◌-◌, ◌≤◌}
use native.Mathlib.Omega.{arith}
use mathlib.Core.Path.{◌≡◌, refl, sym, ap, ◌∙◌, subst}
use mathlib.Core.List.{List, [], ◌∷◌}
use lib.ListN.{length, take, drop}
use lib.Seq.{take-take}
use Rattle.std.specs.Prelude.{Option, Some, None}
use Rattle.buffer.specs.Parts.{between, index_of, lines}
use Rattle.buffer.proofs.Reading.{index-within}
use Rattle.buffer.proofs.ByLine.{Line, line_at, lines-within}
use Rattle.results.specs.Standing.{standing_of, counted, row_count, named, out_notes, found_at, next_out, First, Names}
use Rattle.results.specs.declared.tolerance.Standing.{Standing}
use Rattle.results.specs.declared.tolerance.Standing.TheVariants.{NoRow, Within, Out}
use Rattle.results.specs.declared.tolerance.Out as declared

-- ---- counting

rows-within : (ls : List (List ℕ)) → row_count ls ≤ length ls
unfolding row_count
rows-within [] = omega arith
rows-within (l ∷ ls) = go (standing_of l) (rows-within ls)
  where
    go : (t : Standing) → row_count ls ≤ length ls → counted t (row_count ls) ≤ suc (length ls)
    go NoRow h = omega arith
    go Within h = omega arith
    go Out h = omega arith

notes-within : (ls : List (List ℕ)) → length (out_notes ls) ≤ length ls
unfolding out_notes
notes-within [] = omega arith
notes-within (l ∷ ls) = go (standing_of l) (notes-within ls)
  where
    go : (t : Standing) → length (out_notes ls) ≤ length ls → length (named t (take (index_of 59 l) l) (out_notes ls)) ≤ suc (length ls)
    go NoRow h = omega arith
    go Within h = omega arith
    go Out h = omega arith

-- rows and notes so far and those of the lines that are left are all
pub record Counted (s : List ℕ) (rows out : ℕ) (left : List (List ℕ)) : Type 0 where
  pub all : rows + row_count left ≡ row_count (lines s)
  pub notes : out + length (out_notes left) ≡ length (out_notes (lines s))

pub none-counted : (s : List ℕ) {left : List (List ℕ)} → left ≡ lines s → Counted s 0 0 left
none-counted s e = record { all = ap (λ (n : ℕ). 0 + n) (ap row_count e) ∙ omega arith; notes = ap (λ (n : ℕ). 0 + n) (ap (λ (ls : List (List ℕ)). length (out_notes ls)) e) ∙ omega arith }

pub counted-within-input : {s : List ℕ} {rows out : ℕ} {left : List (List ℕ)} → Counted s rows out left → (rows ≤ length s) × (out ≤ length s)
counted-within-input {s} before = (omega (arith, before.all, rows-within (lines s), lines-within s), omega (arith, before.notes, notes-within (lines s), lines-within s))

module _ {s : List ℕ} {rows out : ℕ} {left : List (List ℕ)} (before : Counted s rows out left) {l : List ℕ} {ls : List (List ℕ)} (e : left ≡ l ∷ ls) where
  rows-from : (t : Standing) → t ≡ standing_of l → row_count left ≡ counted t (row_count ls)
  unfolding row_count
  rows-from t f = rw (e, f) refl

  notes-from : (t : Standing) → t ≡ standing_of l → out_notes left ≡ named t (take (index_of 59 l) l) (out_notes ls)
  unfolding out_notes
  notes-from t f = rw (e, f) refl

  pub counted_none : NoRow ≡ standing_of l → Counted s rows out ls
  counted_none f = record { all = omega (arith, rows-from NoRow f, before.all); notes = omega (arith, ap length (notes-from NoRow f), before.notes) }

  pub counted-within : Within ≡ standing_of l → Counted s (rows + 1) out ls
  counted-within f = record { all = omega (arith, rows-from Within f, before.all); notes = omega (arith, ap length (notes-from Within f), before.notes) }

  pub counted-out : Out ≡ standing_of l → Counted s (rows + 1) (out + 1) ls
  counted-out f = record { all = omega (arith, rows-from Out f, before.all); notes = omega (arith, ap length (notes-from Out f), before.notes) }

pub counted-all : {s : List ℕ} {rows out : ℕ} {left : List (List ℕ)} → Counted s rows out left → left ≡ [] → (rows ≡ row_count (lines s)) × (out ≡ length (out_notes (lines s)))
unfolding row_count out_notes
counted-all before e = (omega (arith, ap row_count e, before.all), omega (arith, ap (λ (ls : List (List ℕ)). length (out_notes ls)) e, before.notes))

-- ---- finding the next

-- what is found of the lines that are left, and all that they name, is what is found and named from the start
pub record Passed (s : List ℕ) (from at : ℕ) (left : List (List ℕ)) : Type 0 where
  pub ahead : from ≤ at
  pub is : left ≡ lines (drop at s)
  pub next : next_out at left ≡ next_out from (lines (drop from s))
  pub notes : out_notes left ≡ out_notes (lines (drop from s))

pub none_passed : (s : List ℕ) (from : ℕ) {left : List (List ℕ)} → left ≡ lines (drop from s) → Passed s from from left
none_passed s from e = record { ahead = omega arith; is = e; next = ap (next_out from) e; notes = ap out_notes e }

module _ {s : List ℕ} {from at : ℕ} {left : List (List ℕ)} (before : Passed s from at left) {l : List ℕ} {ls : List (List ℕ)} (e : left ≡ l ∷ ls) where
  line : Line s at l ls
  line = line_at s at l ls (sym before.is ∙ e)

  pub line_within : at + length l ≤ length s
  line_within = line.ends.within

  module _ (t : Standing) (f : t ≡ standing_of l) where
    names-from : out_notes left ≡ named t (take (index_of 59 l) l) (out_notes ls)
    unfolding out_notes
    names-from = rw (e, f) refl

    next-from : next_out at left ≡ found_at t (Some (record { start = at; note = at + index_of 59 l; end = at + length l })) (next_out (at + length l + 1) ls)
    unfolding next_out
    next-from = rw (e, f) refl

  over : next_out at left ≡ next_out (at + length l + 1) ls → out_notes left ≡ out_notes ls → Passed s from (at + length l + 1) ls
  over n o = record { ahead = omega (arith, before.ahead); is = line.others; next = sym n ∙ before.next; notes = sym o ∙ before.notes }

  -- a line that is within tolerance, or no row, is passed over
  pub passed-by : (t : Standing) → t ≡ standing_of l → (t ≡ Out → ⊥) → Passed s from (at + length l + 1) ls
  passed-by NoRow f n = over (next-from NoRow f) (names-from NoRow f)
  passed-by Within f n = over (next-from Within f) (names-from Within f)
  passed-by Out f n = absurd (n refl)

  module _ (note : ℕ) (i : note ≡ index_of 59 l) where
    pub note-within : note ≤ length l
    note-within = omega (arith, index-within 59 l)

    -- the bytes before a row's first `;`
    note-is : take (index_of 59 l) l ≡ between s at (at + note)
    note-is =
        let size : at + note - at ≡ note = omega arith in
        let span : at + length l - at ≡ length l = omega arith in
        let bytes : l ≡ take (length l) (drop at s) = line.is ∙ ap (λ (n : ℕ). take n (drop at s)) span in
        ap (λ (n : ℕ). take n l) (sym i) ∙ ap (take note) bytes ∙ take-take note (length l) (drop at s) (omega (arith, note-within)) ∙ ap (λ (n : ℕ). take n (drop at s)) (sym size)

    -- a row out of tolerance is the one found, and its note is the first named
    pub found : Out ≡ standing_of l → (Some (record { start = at; note = at + note; end = at + length l }) ≡ next_out from (lines (drop from s))) × Names (Some (record { start = at; note = at + note; end = at + length l })) s from
    found f =
        let this : Some (record { start = at; note = at + note; end = at + length l }) ≡ next_out at left = rw i (sym (next-from Out f)) in (
          this ∙ before.next,
          record {
            ahead = before.ahead;
            note = omega arith;
            line = omega (arith, note-within);
            inside = line.ends.within;
            names = sym before.notes ∙ names-from Out f ∙ ap (λ (n : List ℕ). n ∷ out_notes ls) note-is ∙ ap (λ (m : List (List ℕ)). between s at (at + note) ∷ out_notes m) line.others;
          },
        )

-- what a caller has of a row found
pub first_of : {r : Option declared.Out} {row : declared.Out} (s : List ℕ) (at : ℕ) → r ≡ Some row → Names r s at → First s at row.start row.note row.end
first_of s at e n = subst (λ (r : Option declared.Out). Names r s at) e n

pub found_none : {s : List ℕ} {from at : ℕ} {left : List (List ℕ)} → Passed s from at left → left ≡ [] → (None ≡ next_out from (lines (drop from s))) × Names None s from
unfolding next_out out_notes
found_none {s} {from} {at} before e = (sym (ap (next_out at) e) ∙ before.next, sym before.notes ∙ ap out_notes e)
