-- Numbers stored as bytes, one after the other; numbers stored as far as there is room.
-- Assumes nothing.
use Rattle.std.proofs.Common.{◌≡◌, ℕ, zero, suc, ◌+◌, ◌-◌, ◌%◌, ◌<◌, ◌≤◌, List, [], ◌∷◌, ◌++◌, length, get_or, take, min, set, replicate, sym, refl, ap, ◌∙◌, ap₂, append-nil, arith, length-append, length-take, length-take-le, take_all}
use native.Mathlib.Decide.{dec_lt}
use lib.ListN.{length-replicate}
use lib.Seq.{take-nil, take-append-le, take-append-add}
use Rattle.buffer.specs.Run.{put}
use Rattle.buffer.proofs.Put.{copy_more, put-none, put-put, length-put, take-replicate}
use Rattle.replay.specs.Numbers.{stored, count_after}
use Rattle.replay.specs.Bytes.{bytes_of}

pub length-bytes : (w : List ℕ) → length (bytes_of w) ≡ length w
unfolding bytes_of
length-bytes [] = refl
length-bytes (x ∷ xs) = ap suc (length-bytes xs)

get_or-bytes : (w : List ℕ) (i : ℕ) → get_or (bytes_of w) i 0 ≡ get_or w i 0 % 256
unfolding bytes_of
get_or-bytes [] i = refl
get_or-bytes (x ∷ xs) zero = refl
get_or-bytes (x ∷ xs) (suc i) = get_or-bytes xs i

-- one more
pub narrow-more : (d w : List ℕ) (i : ℕ) → i < length d → i < length w → set (put d 0 (take i (bytes_of w))) i (get_or w i 0 % 256) ≡ put d 0 (take (i + 1) (bytes_of w))
narrow-more d w i h k =
    let z : 0 + i ≡ i = omega arith in
    rw (z, get_or-bytes w i) at (copy_more d 0 (bytes_of w) 0 0 i (omega arith) (omega (arith, length-bytes w)))

-- as many as there are and there is room for
pub narrow-all : (d w : List ℕ) (i : ℕ) → i ≡ min (length w) (length d) → put d 0 (take i (bytes_of w)) ≡ put d 0 (take (length d) (bytes_of w))
narrow-all d w i e = go (dec_lt i (length w))
  where
    go : Dec (i < length w) → put d 0 (take i (bytes_of w)) ≡ put d 0 (take (length d) (bytes_of w))
    go (yes h) = ap (λ (k : ℕ). put d 0 (take k (bytes_of w))) (omega (arith, e, h))
    go (no h) = ap (put d 0) (take_all i (bytes_of w) (omega (arith, length-bytes w)) ∙ sym (take_all (length d) (bytes_of w) (omega (arith, e, length-bytes w))))

-- ---- numbers stored as far as there is room

module _ (out : List ℕ) (count : ℕ) (within : count ≤ length out) (xs l : List ℕ) where
  -- the room before, what of xs fits, and what is left of the room
  abbrev room : ℕ
  room = length out - count

  abbrev front : List ℕ
  front = take room xs

  front_fits : length front ≤ room
  front_fits = rw length-take (omega arith)

  split : Dec (room < length xs) → take room (xs ++ l) ≡ front ++ take (length out - (count + length front)) l
  split (yes h) =
      let full : length front ≡ room = length-take-le room xs (omega arith) in
      let none : length out - (count + length front) ≡ 0 = omega arith in
      take-append-le room xs l (omega arith) ∙ sym (append-nil front) ∙ ap (λ (k : ℕ). front ++ take k l) (sym none)
  split (no h) =
      let all : front ≡ xs = take_all room xs (omega arith) in
      let n : length front ≡ length xs = ap length all in
      let r : room ≡ length xs + (length out - (count + length front)) = omega arith in
      ap (λ (k : ℕ). take k (xs ++ l)) r ∙ take-append-add xs l (length out - (count + length front)) ∙ ap (λ (f : List ℕ). f ++ take (length out - (count + length front)) l) (sym all)

  -- some numbers are stored, then others
  pub stored_more : (out' : List ℕ) (count' : ℕ) → out' ≡ stored out count xs → count' ≡ count_after out count xs → (stored out count (xs ++ l) ≡ stored out' count' l) × (count_after out count (xs ++ l) ≡ count_after out' count' l) × (count' ≤ length out') × (length out' ≡ length out)
  stored_more out' count' e f =
      let same : length out' ≡ length out = ap length e ∙ length-put out count front (length front) refl (omega (arith, front_fits)) in
      let parts : take room (xs ++ l) ≡ front ++ take (length out' - count') l = rw (same, f) (split (dec_lt room (length xs))) in
      let rest = take (length out' - count') l in (
        ap (put out count) parts ∙ sym (put-put out count front rest (length front) refl (omega (arith, front_fits))) ∙ ap₂ (λ (o : List ℕ) (k : ℕ). put o k rest) (sym e) (sym f),
        ap (λ (r : List ℕ). count + length r) parts ∙ ap (λ (k : ℕ). count + k) (length-append front rest) ∙ omega (arith, f),
        omega (arith, front_fits),
        same,
      )

-- one number so many times: as often as there is room for, or all of it
module _ (out : List ℕ) (count n v : ℕ) (within : count ≤ length out) (out' : List ℕ) where
  pub store-some : length out - count < n → out' ≡ put out count (replicate (length out - count) v) → (out' ≡ stored out count (replicate n v)) × (length out' ≡ count_after out count (replicate n v))
  store-some h e =
      let k = length out - count in
      let r : replicate k v ≡ take k (replicate n v) = sym (take-replicate k n v (omega arith)) in
      let full : length (take k (replicate n v)) ≡ k = length-take-le k (replicate n v) (rw length-replicate (omega arith)) in
      (e ∙ ap (put out count) r, ap length e ∙ length-put out count (replicate k v) k (length-replicate k v) (omega arith) ∙ omega (arith, full))

  pub store-all : n ≤ length out - count → out' ≡ put out count (replicate n v) → (out' ≡ stored out count (replicate n v)) × (count + n ≡ count_after out count (replicate n v))
  store-all h e =
      let all : take (length out - count) (replicate n v) ≡ replicate n v = take_all (length out - count) (replicate n v) (rw length-replicate h) in
      (e ∙ ap (put out count) (sym all), ap (λ (k : ℕ). count + k) (sym (ap length all ∙ length-replicate n v)))

-- no number is left
pub stored-none : (out : List ℕ) (count : ℕ) (l : List ℕ) → l ≡ [] → (out ≡ stored out count l) × (count ≡ count_after out count l)
stored-none out count l e = rw (e, take-nil (length out - count)) (sym (put-none out count), omega arith)

-- the count lies in the buffer
pub count-within : (out l out' : List ℕ) (count : ℕ) → out' ≡ stored out 0 l → count ≡ count_after out 0 l → count ≤ length out'
count-within out l out' count e f =
    let h = front_fits out 0 (omega arith) l [] in
    let t = take (length out - 0) l in
    let same = length-put out 0 t (length t) refl (omega (arith, h)) in
    omega (arith, f, h, ap length e, same)
