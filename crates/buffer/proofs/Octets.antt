-- The laws of octets that the readers of text bytes lean on.
--     owed_start, ascii_well           an octet that starts a character; bytes below 128 are well-formed
--     fold-and, every-same, every_part, every-short    a test of every octet: asked of each in turn; one over and over; a part; the front of a part
--     ascii_part, ascii-short, unfed_part    the same of octets below 128, and without a line feed
--     owed_first, owed_outside, owed-next, owed-end, owed-low   one octet of what is owed; the end; one below 128 read
-- Assumes nothing.
use Prim.Native.Nat.{ℕ, zero, suc, ◌+◌, ◌-◌, ◌≤◌, ◌<◌}
use native.Mathlib.Omega.{arith}
use native.Mathlib.Numerals.{add-one}
use mathlib.Core.Path.{◌≡◌, refl, sym, ap, ◌∙◌}
use mathlib.Core.Bool.{Bool, true, false, not, ◌&&◌}
use mathlib.Core.List.{List, [], ◌∷◌}
use lib.ListN.{length, get_or, take, drop, replicate}
use lib.Seq.{take-take, drop-cons}
use lib.Dec.{eqb, ltb, eqb-suc-zero}
use borrow.Author.Tests.{ltb-true, le-leb}
use Rattle.buffer.specs.Utf8.{Range, to, within, tail, Start, start, follow, never, owed, well_formed, every, ascii, no_feed}
use Rattle.buffer.specs.Reader.{owing, ranges, starts, goes_on}
use Rattle.buffer.specs.declared.utf8.Owing.{Owing}
use Rattle.std.proofs.Common.{Option, Some, None}
use Rattle.std.specs.List.{fold}
use Rattle.choice.proofs.Tests.{and-end, and-true, true-and}

-- ---- characters

-- an octet that starts a character owes what follows it
pub owed_start : (b : ℕ) (bs : List ℕ) (rs : List Range) → start b ≡ follow rs → owed [] (b ∷ bs) ≡ owed rs bs
unfolding owed
owed_start b bs rs e = ap (λ (s : Start). elim s as (λ x. Bool) [ follow qs ↦ owed qs bs | never ↦ false ]) e

-- bytes below 128 are well-formed
pub ascii_well : (bs : List ℕ) → ascii bs ≡ true → well_formed bs ≡ true
unfolding ascii every well_formed
ascii_well [] e = unfold owed in refl
ascii_well (b ∷ bs) e =
    let p = and-true (ltb b 128) (ascii bs) e in
    let h : b ≤ 127 = omega (arith, ltb-true b 128 p.0) in
    let s : start b ≡ follow [] = rw (le-leb 0 b (omega arith), le-leb b 127 h) in
    owed_start b bs [] s ∙ ascii_well bs p.1

-- ---- every octet passes a test

and_assoc : (p q r : Bool) → (p && q) && r ≡ p && (q && r)
and_assoc true q r = refl
and_assoc false q r = refl

-- a test of all that is asked of each in turn, to the end
pub fold-and : (F : List ℕ → Bool) (p : ℕ → Bool) → F [] ≡ true → ((x : ℕ) (xs : List ℕ) → F (x ∷ xs) ≡ p x && F xs) → (s : List ℕ) → fold (λ all x. all && p x) true s ≡ F s
fold-and F p none step s = go true s
  where
    go : (q : Bool) (xs : List ℕ) → fold (λ all x. all && p x) q xs ≡ q && F xs
    go q [] = rw none (sym (and-end q))
    go q (x ∷ xs) = go (q && p x) xs ∙ and_assoc q (p x) (F xs) ∙ ap (λ (r : Bool). q && r) (sym (step x xs))

module _ (f : ℕ → Bool) where
  -- one octet, over and over
  pub every-same : (b n : ℕ) → f b ≡ true → every f (replicate n b) ≡ true
  unfolding every
  every-same b zero e = refl
  every-same b (suc n) e = true-and _ _ e (every-same b n e)

  every_take : (n : ℕ) (s : List ℕ) → every f s ≡ true → every f (take n s) ≡ true
  unfolding every
  every_take zero s e = refl
  every_take (suc n) [] e = refl
  every_take (suc n) (b ∷ s) e = let p = and-true (f b) (every f s) e in true-and _ _ p.0 (every_take n s p.1)

  every_drop : (n : ℕ) (s : List ℕ) → every f s ≡ true → every f (drop n s) ≡ true
  unfolding every
  every_drop zero s e = e
  every_drop (suc n) [] e = refl
  every_drop (suc n) (b ∷ s) e = every_drop n s (and-true (f b) (every f s) e).1

  -- of all of the text: so of every part of it
  pub every_part : (s : List ℕ) (o l : ℕ) → every f s ≡ true → every f (take l (drop o s)) ≡ true
  every_part s o l e = every_take l (drop o s) (every_drop o s e)

  -- the front of what passes
  pub every-short : (s : List ℕ) (n m : ℕ) → n ≤ m → every f (take m s) ≡ true → every f (take n s) ≡ true
  every-short s n m h e = ap (every f) (sym (take-take n m s h)) ∙ every_take n (take m s) e

-- the same of octets below 128, and without a line feed
pub ascii_part : (s : List ℕ) (o l : ℕ) → ascii s ≡ true → ascii (take l (drop o s)) ≡ true
unfolding ascii
ascii_part s o l e = every_part (λ b. ltb b 128) s o l e

pub ascii-short : (s : List ℕ) (n m : ℕ) → n ≤ m → ascii (take m s) ≡ true → ascii (take n s) ≡ true
unfolding ascii
ascii-short s n m h e = every-short (λ b. ltb b 128) s n m h e

pub unfed_part : (s : List ℕ) (o l : ℕ) → no_feed s ≡ true → no_feed (take l (drop o s)) ≡ true
unfolding no_feed
unfed_part s o l e = every_part (λ b. not (eqb b 10)) s o l e

-- ---- what is owed

owed-never : (b : ℕ) (bs : List ℕ) → start b ≡ never → owed [] (b ∷ bs) ≡ false
unfolding owed
owed-never b bs e = ap (λ (s : Start). elim s as (λ x. Bool) [ follow rs ↦ owed rs bs | never ↦ false ]) e

-- nothing is owed: the octet starts a character
pub owed_first : (n low high b : ℕ) (r : Option Owing) → n ≡ 0 → starts r ≡ start b → (bs : List ℕ) → owed (owing n low high) (b ∷ bs) ≡ goes_on r bs
owed_first n low high b (Some o) z e bs = rw z (owed_start b bs (ranges o) (sym e))
owed_first n low high b None z e bs = rw z (owed-never b bs (sym e))

-- the octet is not in the range that is owed
pub owed_outside : (n low high b : ℕ) → (n ≡ 0 → ⊥) → within (to low high) b ≡ false → (bs : List ℕ) → owed (owing n low high) (b ∷ bs) ≡ false
unfolding owed
owed_outside zero low high b ne e bs = absurd (ne refl)
owed_outside (suc n) low high b ne e bs = rw e

tails : (n : ℕ) → owing n 0x80 0xBF ≡ replicate n tail
tails zero = refl
tails (suc n) = refl

-- the octet is in it
pub owed-next : (n low high b : ℕ) → (n ≡ 0 → ⊥) → within (to low high) b ≡ true → (bs : List ℕ) → owed (owing n low high) (b ∷ bs) ≡ owed (owing (n - 1) 0x80 0xBF) bs
unfolding owed
owed-next zero low high b ne e bs = absurd (ne refl)
owed-next (suc n) low high b ne e bs =
    let less : suc n - 1 ≡ n = omega arith in
    rw (e, less) (ap (λ (rs : List Range). owed rs bs) (sym (tails n)))

pub owed-end : (n low high : ℕ) → owed (owing n low high) [] ≡ eqb n 0
unfolding owed
owed-end zero low high = refl
owed-end (suc n) low high = sym (eqb-suc-zero n)

-- nothing is owed and the octet is below 128: it is a character
pub owed-low : (bytes : List ℕ) (i n low high : ℕ) → i < length bytes → n ≡ 0 → get_or bytes i 0 < 128 → owed (owing n low high) (drop (i + 1) bytes) ≡ owed (owing n low high) (drop i bytes)
owed-low bytes i n low high h z l =
    let b = get_or bytes i 0 in
    let e : start b ≡ follow [] = rw (le-leb 0 b (omega arith), le-leb b 0x7F (omega arith)) in
    rw z (ap (λ (k : ℕ). owed [] (drop k bytes)) (add-one i) ∙ sym (owed_start b (drop (suc i) bytes) [] e) ∙ ap (owed []) (sym (drop-cons bytes i 0 h)))
