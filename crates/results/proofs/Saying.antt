-- The laws of what a line says, over plain lists.
--     tenths-.., no-whole, no-digit tenths, by length and point, then by what stands at both sides of it
--     no-force, no-pluck, no-remark, fields_are   where the separators stand
--     no_note, long-note            the note
--     ..-fault, row-is              force and pluck point behind a note
--     no_line, verdict_of_lem       an empty line; one line of an input
-- Assumes nothing.
use Prim.Native.Nat.{ℕ, ◌+◌, ◌-◌, ◌*◌, ◌≤◌, ◌<◌}
use native.Mathlib.Omega.{arith}
use mathlib.Core.Path.{◌≡◌, refl, sym, ap, ◌∙◌, subst}
use mathlib.Core.Bool.{true, false, ◌||◌}
use mathlib.Core.List.{List, [], ◌∷◌}
use lib.ListN.{length, get_or, take, drop, length-drop}
use lib.Seq.{take_all}
use lib.Dec.{eqb}
use borrow.Author.Tests.{le-leb, lt-leb}
use Rattle.buffer.specs.Parts.{between, characters, blank, controls, body_end}
use Rattle.buffer.specs.Utf8.{owed, well_formed}
use Rattle.results.proofs.Digits.{number_small}
use Rattle.results.specs.Numbers.{number_of, tenths_add, tenths_of, Small}
use Rattle.results.specs.Pallets.{Ordered, separator, cuts_at, fields_of, measured, pallet_of, said, parsed, verdict_of, verdict_at}
use Rattle.results.specs.declared.Fault.TheVariants.{NoForce, NoPluck, NoRemark, Note, Force, Pluck}
use Rattle.results.specs.declared.Fault.{Fault}
use Rattle.results.specs.declared.Cuts.{Cuts}
use Rattle.results.specs.declared.Line.TheVariants.{Empty, Row}
use Rattle.results.specs.declared.Line.{Line}
use Rattle.std.specs.Prelude.{Option, Some, None, Result, Ok, Err}

-- ---- tenths

pub tenths-short : (s : List ℕ) → length s < 3 → None ≡ tenths_of s
unfolding tenths_of
tenths-short s h = rw (lt-leb 3 (length s) h)

pub tenths_long : (s : List ℕ) → 4 < length s → None ≡ tenths_of s
unfolding tenths_of
tenths_long s h = rw (le-leb 3 (length s) (omega arith), lt-leb (length s) 4 h)

module _ (s : List ℕ) (l : 3 ≤ length s) (u : length s ≤ 4) where
  pub tenths_no_point : (eqb (get_or s (length s - 2) 0) 46 || eqb (get_or s (length s - 2) 0) 44) ≡ false → None ≡ tenths_of s
  unfolding tenths_of
  tenths_no_point e = rw (le-leb 3 (length s) l, le-leb (length s) 4 u, e)

  tenths_are : (eqb (get_or s (length s - 2) 0) 46 || eqb (get_or s (length s - 2) 0) 44) ≡ true → tenths_add (number_of (take (length s - 2) s)) (number_of (take (length s - (length s - 1)) (drop (length s - 1) s))) ≡ tenths_of s
  unfolding tenths_of
  tenths_are e =
      let rest : take (length s - (length s - 1)) (drop (length s - 1) s) ≡ drop (length s - 1) s = take_all (length s - (length s - 1)) (drop (length s - 1) s) (rw length-drop (omega arith)) in
      rw (rest, le-leb 3 (length s) l, le-leb (length s) 4 u, e)

  -- by what stands in front of the point, and by the digit behind it
  module _ (e : (eqb (get_or s (length s - 2) 0) 46 || eqb (get_or s (length s - 2) 0) 44) ≡ true) {front : Option ℕ} (f : front ≡ number_of (take (length s - 2) s)) where
    pub no-whole : front ≡ None → None ≡ tenths_of s
    unfolding tenths_add
    no-whole g = rw (← tenths_are e, ← f, g)

    module _ (w : ℕ) (is : front ≡ Some w) where
      pub whole_small : w < 10000
      whole_small = subst Small (sym f ∙ is) (number_small (take (length s - 2) s))

      module _ {back : Option ℕ} (b : back ≡ number_of (take (length s - (length s - 1)) (drop (length s - 1) s))) where
        pub no-digit : back ≡ None → None ≡ tenths_of s
        unfolding tenths_add
        no-digit g = rw (← tenths_are e, ← f, is, ← b, g)

        pub digit_small : (d : ℕ) → back ≡ Some d → d < 10000
        digit_small d g = subst Small (sym b ∙ g) (number_small (take (length s - (length s - 1)) (drop (length s - 1) s)))

        pub tenths-is : (d : ℕ) → back ≡ Some d → Some (w * 10 + d) ≡ tenths_of s
        unfolding tenths_add
        tenths-is d g = rw (← tenths_are e, ← f, is, ← b, g)

-- ---- separators

cuts_are : (s : List ℕ) (a b c : ℕ) → a ≡ separator s 0 → b ≡ separator s (a + 1) → c ≡ separator s (b + 1) → cuts_at s a b c ≡ fields_of s
unfolding fields_of
cuts_are s a b c ea eb ec =
    let b' : b ≡ separator s (separator s 0 + 1) = eb ∙ ap (λ (n : ℕ). separator s (n + 1)) ea in
    let c' : c ≡ separator s (separator s (separator s 0 + 1) + 1) = ec ∙ ap (λ (n : ℕ). separator s (n + 1)) b' in
    ap (λ (n : ℕ). cuts_at s n b c) ea ∙ ap (λ (n : ℕ). cuts_at s (separator s 0) n c) b' ∙ ap (cuts_at s (separator s 0) (separator s (separator s 0 + 1))) c'

module _ (s : List ℕ) (a : ℕ) (ea : a ≡ separator s 0) where
  pub no-force : length s ≤ a → Err NoForce ≡ fields_of s
  unfolding cuts_at
  no-force h = rw (← cuts_are s a (separator s (a + 1)) (separator s (separator s (a + 1) + 1)) ea refl refl, le-leb (length s) a h)

  module _ (b : ℕ) (eb : b ≡ separator s (a + 1)) (ha : a < length s) where
    pub no-pluck : length s ≤ b → Err NoPluck ≡ fields_of s
    unfolding cuts_at
    no-pluck h = rw (← cuts_are s a b (separator s (b + 1)) ea eb refl, lt-leb (length s) a ha, le-leb (length s) b h)

    module _ (c : ℕ) (ec : c ≡ separator s (b + 1)) (hb : b < length s) where
      pub no-remark : length s ≤ c → Err NoRemark ≡ fields_of s
      unfolding cuts_at
      no-remark h = rw (← cuts_are s a b c ea eb ec, lt-leb (length s) a ha, lt-leb (length s) b hb, le-leb (length s) c h)

      pub fields_are : c < length s → Ok (record { first = a; second = b; third = c }) ≡ fields_of s
      unfolding cuts_at
      fields_are h = rw (← cuts_are s a b c ea eb ec, lt-leb (length s) a ha, lt-leb (length s) b hb, lt-leb (length s) c h)

-- a field that is missing
pub refused : {r : Result Cuts Fault} {f : Fault} (s : List ℕ) → r ≡ Err f → Err f ≡ fields_of s → (r ≡ fields_of s) × Ordered r (length s)
refused s e g = (e ∙ g, subst (λ (r : Result Cuts Fault). Ordered r (length s)) (sym e) tt)

-- ---- a pallet

module _ (s : List ℕ) (first second third : ℕ) where
  pub no_note : blank (take first s) ≡ true → Err Note ≡ pallet_of s first second third
  unfolding pallet_of
  no_note h = rw h

  module _ (h : blank (take first s) ≡ false) (w : ℕ) (e : w ≡ characters (take first s)) where
    pub long-note : 5 < w → Err Note ≡ pallet_of s first second third
    unfolding pallet_of
    long-note u = rw (h, ← e, lt-leb w 5 u)

    module _ (u : w ≤ 5) {force : Option ℕ} (f : force ≡ number_of (between s (first + 1) second)) where
      pallet-is : measured first second third force (tenths_of (between s (second + 1) third)) ≡ pallet_of s first second third
      unfolding pallet_of
      pallet-is = rw (f, h, ← e, le-leb w 5 u)

      pub force-fault : force ≡ None → Err Force ≡ pallet_of s first second third
      unfolding measured
      force-fault g = rw (← pallet-is, g)

      module _ (grams : ℕ) (g : force ≡ Some grams) {pluck : Option ℕ} (k : pluck ≡ tenths_of (between s (second + 1) third)) where
        pub pluck-fault : pluck ≡ None → Err Pluck ≡ pallet_of s first second third
        unfolding measured
        pluck-fault i = rw (← pallet-is, g, ← k, i)

        pub row-is : (tenths : ℕ) → pluck ≡ Some tenths → Ok (Row (record { force = first + 1; pluck = second + 1; remark = third + 1; grams = grams; tenths = tenths })) ≡ pallet_of s first second third
        unfolding measured
        row-is tenths i = rw (← pallet-is, g, ← k, i)

-- ---- a line of an input

pub no_line : (s : List ℕ) → length s ≡ 0 → Ok Empty ≡ parsed s
unfolding parsed said well_formed owed controls
no_line [] h = refl
no_line (b ∷ s) h = absurd (omega arith)

-- what a line says up to its end gives its verdict
pub verdict_of_lem : (s : List ℕ) (n : ℕ) → n ≡ body_end s → {l l' : Result Line Fault} → l ≡ l' → l ≡ parsed (take n s) → verdict_of l' ≡ verdict_at s
verdict_of_lem s n e is says = rw (← is, says, e)
