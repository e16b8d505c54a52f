-- The laws of reading a list of numbers, over plain lists.
--     digit_worth, digit_none           what a byte is worth in a base, or that it is no digit there
--     value-more, value-over, value-end     a number: a digit more, a byte that ends it, the end of the bytes
--     digits-within                     its digits lie in the bytes
--     number_alone, number-times        a number with no count behind it, and one with its count
--     list-number, list-other, list-end between numbers: one starts, none does, the end
-- Assumes nothing.
use Rattle.std.proofs.Common.{◌≡◌, ℕ, ◌+◌, ◌<◌, ◌≤◌, Bool, true, false, eqb, ltb, List, [], ◌∷◌, ◌++◌, length, get_or, drop, replicate, sym, refl, ap, ◌∙◌, ap₂, append-nil, arith, drop-drop, le-ltb, lt-ltb, eq-eqb, ne_eqb}
use borrow.Author.Tests.{ltb-true, ltb-false}
use Rattle.choice.specs.Pick.{pick}
use Rattle.buffer.proofs.Reading.{more, done}
use Rattle.std.specs.Prelude.{Some, None}
use Rattle.replay.specs.Bases.{digit_in}
use Rattle.replay.specs.Numbers.{digit_of, further, value_of, digits, between, value, times, listed}

-- ---- a digit

module _ (base b : ℕ) where
  pub digit_worth : (d : ℕ) → Some d ≡ digit_in base b → (d ≡ digit_of b) × (d < base)
  digit_worth d e = go (ltb (digit_of b) base) refl e
    where
      go : (t : Bool) → ltb (digit_of b) base ≡ t → Some d ≡ pick t (Some (digit_of b)) None → (d ≡ digit_of b) × (d < base)
      go true f g = let h : d ≡ digit_of b = cc in (h, omega (arith, h, ltb-true (digit_of b) base f))
      go false f g = let z : ◌≡◌ {A = ℕ} 0 1 = cc in absurd (omega arith)

  pub digit_none : None ≡ digit_in base b → base ≤ digit_of b
  digit_none e = go (ltb (digit_of b) base) refl e
    where
      go : (t : Bool) → ltb (digit_of b) base ≡ t → None ≡ pick t (Some (digit_of b)) None → base ≤ digit_of b
      go true f g = let z : ◌≡◌ {A = ℕ} 0 1 = cc in absurd (omega arith)
      go false f g = ltb-false (digit_of b) base f

-- ---- a number, read from a place

module _ (base : ℕ) (s : List ℕ) (i : ℕ) where
  pub value-more : (v d : ℕ) → i < length s → d ≡ digit_of (get_or s i 0) → d < base → (value_of base (further base v d) (drop (i + 1) s) ≡ value_of base v (drop i s)) × (i + 1 + digits base (drop (i + 1) s) ≡ i + digits base (drop i s))
  unfolding value_of digits
  value-more v d h e l = rw (more s i h, ← e, lt-ltb d base l) (refl, omega arith)

  pub value-over : (v d : ℕ) → i < length s → d ≡ digit_of (get_or s i 0) → base ≤ d → (v ≡ value_of base v (drop i s)) × (i ≡ i + digits base (drop i s))
  unfolding value_of digits
  value-over v d h e l = rw (more s i h, ← e, le-ltb d base l) (refl, omega arith)

  pub value-end : (v : ℕ) → length s ≤ i → (v ≡ value_of base v (drop i s)) × (i ≡ i + digits base (drop i s))
  unfolding value_of digits
  value-end v h = rw (done s i h) (refl, omega arith)

-- ---- numbers of a list

-- a number that stands there once
pub alone : {l : List ℕ} {v n : ℕ} {r : List ℕ} → l ≡ replicate 1 v ++ r → n ≡ 1 → l ≡ replicate n v ++ r
alone e f = rw f e

module _ (base : ℕ) where
  -- how often a number stands there, then what follows
  read-times : (v n : ℕ) (bs : List ℕ) → listed base (times v n) bs ≡ replicate (value_of 10 n bs) v ++ listed base between (drop (digits 10 bs) bs)
  unfolding listed value_of digits
  read-times v n [] = sym (append-nil (replicate n v))
  read-times v n (b ∷ bs) = go (read-times v (further 10 n (digit_of b)) bs) (ltb (digit_of b) 10) refl
    where
      go : listed base (times v (further 10 n (digit_of b))) bs ≡ replicate (value_of 10 (further 10 n (digit_of b)) bs) v ++ listed base between (drop (digits 10 bs) bs)
          → (t : Bool) → ltb (digit_of b) 10 ≡ t
          → listed base (times v n) (b ∷ bs) ≡ replicate (value_of 10 n (b ∷ bs)) v ++ listed base between (drop (digits 10 (b ∷ bs)) (b ∷ bs))
      go on true e = rw e on
      go on false e = rw e refl

  -- a number that has ended, with what follows
  abbrev ended : ℕ → List ℕ → List ℕ
  ended v [] = v ∷ []
  ended v (b ∷ bs) = pick (eqb b 42) (listed base (times v 0) bs) (v ∷ listed base between (b ∷ bs))

  read-value : (v : ℕ) (bs : List ℕ) → listed base (value v) bs ≡ ended (value_of base v bs) (drop (digits base bs) bs)
  unfolding listed value_of digits
  read-value v [] = refl
  read-value v (b ∷ bs) = go (read-value (further base v (digit_of b)) bs) (ltb (digit_of b) base) refl
    where
      go : listed base (value (further base v (digit_of b))) bs ≡ ended (value_of base (further base v (digit_of b)) bs) (drop (digits base bs) bs)
          → (t : Bool) → ltb (digit_of b) base ≡ t
          → listed base (value v) (b ∷ bs) ≡ ended (value_of base v (b ∷ bs)) (drop (digits base (b ∷ bs)) (b ∷ bs))
      go on true e = rw e on
      go on false e =
          let other : listed base between bs ≡ listed base between (b ∷ bs) = rw e refl in
          rw e (ap (λ (r : List ℕ). pick (eqb b 42) (listed base (times v 0) bs) (v ∷ r)) other)

  module _ (s : List ℕ) (from first v end : ℕ) (is : v ≡ value_of base first (drop from s)) (there : end ≡ from + digits base (drop from s)) where
    read_at : listed base (value first) (drop from s) ≡ ended v (drop end s)
    read_at =
        let d : drop (digits base (drop from s)) (drop from s) ≡ drop end s = drop-drop (digits base (drop from s)) from s ∙ ap (λ (k : ℕ). drop k s) (sym there) in
        read-value first (drop from s) ∙ ap₂ ended (sym is) d

    -- nothing follows
    pub number_last : length s ≤ end → listed base (value first) (drop from s) ≡ replicate 1 v ++ listed base between (drop end s)
    unfolding listed
    number_last h = read_at ∙ rw (done s end h) refl

    -- no count follows
    pub number_alone : end < length s → (get_or s end 0 ≡ 42 → ⊥) → listed base (value first) (drop from s) ≡ replicate 1 v ++ listed base between (drop end s)
    number_alone h n = read_at ∙ rw (more s end h, ne_eqb (get_or s end 0) 42 n) refl

    -- its count follows
    pub number-times : (n e : ℕ) → end < length s → get_or s end 0 ≡ 42 → n ≡ value_of 10 0 (drop (end + 1) s) → e ≡ end + 1 + digits 10 (drop (end + 1) s) → listed base (value first) (drop from s) ≡ replicate n v ++ listed base between (drop e s)
    number-times n e h star count behind =
        let l = drop (end + 1) s in
        let d : drop (digits 10 l) l ≡ drop e s = drop-drop (digits 10 l) (end + 1) s ∙ ap (λ (k : ℕ). drop k s) (sym behind) in
        read_at
        ∙ rw (more s end h, eq-eqb (get_or s end 0) 42 star) refl
        ∙ read-times v 0 l
        ∙ ap₂ (λ (k : ℕ) (r : List ℕ). replicate k v ++ listed base between r) (sym count) d

  -- between numbers
  module _ (s : List ℕ) (i d : ℕ) (e : d ≡ digit_of (get_or s i 0)) where
    pub list-number : i < length s → d < base → listed base between (drop i s) ≡ listed base (value d) (drop (i + 1) s)
    unfolding listed
    list-number h l = rw (more s i h, ← e, lt-ltb d base l) refl

    pub list-other : i < length s → base ≤ d → listed base between (drop i s) ≡ listed base between (drop (i + 1) s)
    unfolding listed
    list-other h l = rw (more s i h, ← e, le-ltb d base l) refl

  pub list-end : (s : List ℕ) (i : ℕ) → length s ≤ i → listed base between (drop i s) ≡ []
  unfolding listed
  list-end s i h = rw (done s i h) refl
