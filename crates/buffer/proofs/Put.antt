-- The laws of `put`, over any element. n is the length of what is put, as its user has it.
--     take-replicate                   the front of a run of one element
--     part-is, put-part                a part as a slice: read, and written
--     fill_next, fill-done             a loop that fills all of a list: a store more, and its end
--     put-none, put-more               nothing put; one more element stored behind what is put
--     length-put                       the length is kept
--     take_put, drop-put               the front up to the end of what is put, the rest behind it
--     fill_none, fill_end              a run that fills: before it, and one up to the buffer's end
--     put_one, put-put, put-cons       a single store; a run put behind a run, and behind a single store
--     part-put, copied-over            the front up to a part of what is put; the same of a part of another list
--     put_same, fill-run, fill_part, fill-kept    what stands already; a run more filled, or found full
--     zero-all                         all 0: then it is filled with 0
--     block_filled, block_clean, rest-cleared    a loop that clears by blocks: a block filled or found clean, the rest
-- Assumes nothing.
use mathlib.Core.Path.{◌≡◌, refl, sym, ap, ap₂, ◌∙◌, subst}
use mathlib.Core.Bool.{Bool, true, false, ◌&&◌, true≢false}
use mathlib.Core.List.{List, [], ◌∷◌, ◌++◌, append_assoc, append-nil}
use Prim.Native.Nat.{ℕ, zero, suc, ◌+◌, ◌-◌, ◌≤◌, ◌<◌}
use native.Mathlib.Numerals.{add-one}
use native.Mathlib.Nat.{not-suc-le-zero, le_of_suc-le-suc}
use native.Mathlib.Omega.{arith}
use lib.ListN.{length, take, drop, set, replicate, get_or, length-take, length-append, length-replicate, length-drop, take-append-drop, replicate-append-replicate, drop_of_length-le}
use lib.Seq.{drop-cons, take-suc, take_at, drop_at, set_at, append_snoc, get_or-drop, drop-drop, length-take-le, take-take, take-append-add}
use lib.Dec.{eqb}
use borrow.Author.Tests.{eqb-true}
use borrow.Rule.Slice.PartMut.{put_mid}
use Rattle.buffer.specs.Run.{put, all_zero}

pub take-replicate : {A : Type 0} (n m : ℕ) (v : A) → n ≤ m → take n (replicate m v) ≡ replicate n v
take-replicate zero m v h = refl
take-replicate (suc n) zero v h = absurd (not-suc-le-zero h)
take-replicate {A} (suc n) (suc m) v h = ap (λ (l : List A). v ∷ l) (take-replicate n m v (le_of_suc-le-suc h))

-- a part by where it starts and ends
pub part-is : {A : Type 0} (s : List A) (from n : ℕ) → take (from + n - from) (drop from s) ≡ take n (drop from s)
part-is s from n = let k : from + n - from ≡ n = omega arith in rw k refl

-- a loop that stores v in each place
pub fill_next : {A : Type 0} (d : List A) (i : ℕ) (v : A) (buffer : List A) → i < length d → buffer ≡ replicate i v ++ drop i d → set buffer i v ≡ replicate (i + 1) v ++ drop (i + 1) d
fill_next {A} d i v buffer h e =
    ap (λ (l : List A). set l i v) (e ∙ ap (λ (r : List A). replicate i v ++ r) (drop-cons d i v h))
    ∙ set_at (replicate i v) (get_or d i v) (drop (suc i) d) v i (length-replicate i v)
    ∙ sym (append_snoc (replicate i v) v (drop (suc i) d))
    ∙ ap₂ (λ (x : List A) (k : ℕ). x ++ drop k d) (replicate-append-replicate i 1 v) (sym (add-one i))

pub fill-done : {A : Type 0} (d : List A) (i : ℕ) (v : A) (buffer : List A) → i ≡ length d → buffer ≡ replicate i v ++ drop i d → buffer ≡ replicate (length d) v
fill-done {A} d i v buffer e f =
    let past : length d ≤ i = omega arith in
    f ∙ ap (λ (r : List A). replicate i v ++ r) (drop_of_length-le d past) ∙ append-nil (replicate i v) ∙ ap (λ (n : ℕ). replicate n v) e

module _ {A : Type 0} (d : List A) (at : ℕ) where
  pub put-none : put d at [] ≡ d
  unfolding put
  put-none = let z : at + 0 ≡ at = omega arith in rw (append-nil, z) (take-append-drop at d)

  -- what is put, with the front before it
  head-length : (s : List A) → at ≤ length d → length (take at d ++ s) ≡ at + length s
  head-length s h = simp (length-append, length-take) (omega arith)

  pub put-more : (s : List A) (n : ℕ) (v : A) → length s ≡ n → at + n < length d → set (put d at s) (at + n) v ≡ put d at (s ++ (v ∷ []))
  unfolding put
  put-more s n v e h =
      let m = at + n in
      let p = take at d ++ s in
      let last : suc m ≡ at + length (s ++ (v ∷ [])) = simp length-append (omega arith) in
      ap (λ (k : ℕ). set (p ++ drop (at + k) d) m v) e
      ∙ ap (λ (r : List A). set (p ++ r) m v) (drop-cons d m v h)
      ∙ set_at p (get_or d m v) (drop (suc m) d) v m (head-length s (omega arith) ∙ ap (λ (k : ℕ). at + k) e)
      ∙ sym (append_snoc p v (drop (suc m) d))
      ∙ ap₂ (λ (x : List A) (k : ℕ). x ++ drop k d) (append_assoc (take at d) s (v ∷ [])) last

  pub length-put : (s : List A) (n : ℕ) → length s ≡ n → at + n ≤ length d → length (put d at s) ≡ length d
  unfolding put
  length-put s n e h = simp (length-append, length-take, length-drop) (omega arith)

  pub take_put : (s : List A) (n : ℕ) → length s ≡ n → at + n ≤ length d → take (at + n) (put d at s) ≡ take at d ++ s
  unfolding put
  take_put s n e h = take_at (take at d ++ s) _ (at + n) (head-length s (omega arith) ∙ ap (λ (k : ℕ). at + k) e)

  pub drop-put : (s : List A) (n : ℕ) → length s ≡ n → at + n ≤ length d → drop (at + n) (put d at s) ≡ drop (at + n) d
  unfolding put
  drop-put s n e h = rw e (drop_at (take at d ++ s) _ (at + n) (head-length s (omega arith) ∙ ap (λ (k : ℕ). at + k) e))

  -- ---- a part that is written as a slice

  pub put-part : (n : ℕ) (s : List A) → at + n ≤ length d → length s ≡ n → put_mid at (at + n - at) d s ≡ put d at s
  unfolding put
  put-part n s h e =
      let k : at + n - at ≡ length s = omega arith in
      ap (λ (m : ℕ). take at d ++ (s ++ drop m (drop at d))) k
      ∙ ap (λ (r : List A). take at d ++ (s ++ r)) (drop-drop (length s) at d)
      ∙ sym (append_assoc (take at d) s (drop (at + length s) d))

  -- ---- what the loops store

  -- so far n times v stand in d from `at` on, and the buffer is this
  abbrev pub Filling : A → ℕ → List A → Type 0
  Filling v n buffer = (buffer ≡ put d at (replicate n v)) × (length buffer ≡ length d)

  pub fill_none : (v : A) → Filling v 0 d
  fill_none v = (sym put-none, refl)

  pub fill_end : (v : A) → put d at (replicate (length d - at) v) ≡ take at d ++ replicate (length d - at) v
  unfolding put
  fill_end v =
      let past : length d ≤ at + (length d - at) = omega arith in
      rw (length-replicate, drop_of_length-le d past, append-nil)

  pub copy_more : (s : List A) (from : ℕ) (z : A) (i : ℕ) → at + i < length d → from + i < length s → set (put d at (take i (drop from s))) (at + i) (get_or s (from + i) z) ≡ put d at (take (i + 1) (drop from s))
  copy_more s from z i h k =
      let l : List A = drop from s in
      let in-l : i < length l = simp length-drop (omega arith) in
      let e : take i l ++ (get_or s (from + i) z ∷ []) ≡ take (i + 1) l =
      ap (λ (x : A). take i l ++ (x ∷ [])) (sym (get_or-drop from s i z)) ∙ sym (take-suc l i z in-l) ∙ ap (λ (m : ℕ). take m l) (sym (add-one i)) in
      put-more (take i l) i (get_or s (from + i) z) (length-take-le i l (omega arith)) h ∙ ap (put d at) e

  -- ---- runs behind each other

  pub put_one : (v : A) → at < length d → set d at v ≡ put d at (v ∷ [])
  put_one v h =
      let z : at ≡ at + 0 = omega arith in
      ap₂ (λ (x : List A) (k : ℕ). set x k v) (sym put-none) z ∙ put-more [] 0 v refl (omega arith)

  pub put-put : (s t : List A) (n : ℕ) → length s ≡ n → at + n ≤ length d → put (put d at s) (at + n) t ≡ put d at (s ++ t)
  unfolding put
  put-put s t n e h =
      let m = at + n in
      let k = length t in
      let last : m + k ≡ at + length (s ++ t) = simp length-append (omega arith) in
      let rest : drop (m + k) (put d at s) ≡ drop (m + k) d = sym (drop-drop k m (put d at s)) ∙ ap (drop k) (drop-put s n e h) ∙ drop-drop k m d in
      ap₂ (λ (x y : List A). x ++ t ++ y) (take_put s n e h) rest
      ∙ ap₂ (λ (x : List A) (j : ℕ). x ++ drop j d) (append_assoc (take at d) s t) last

  pub put-cons : (v : A) (t : List A) → at < length d → put (set d at v) (at + 1) t ≡ put d at (v ∷ t)
  put-cons v t h = ap (λ (x : List A). put x (at + 1) t) (put_one v h) ∙ put-put (v ∷ []) t 1 refl (omega arith)

  pub part-put : (s : List A) (m n : ℕ) → length s ≡ m → n ≤ m → at + m ≤ length d → take (at + n) (put d at s) ≡ take at d ++ take n s
  part-put s m n e le h =
      let front : length (take at d) ≡ at = length-take-le at d (omega arith) in
      sym (take-take (at + n) (at + m) (put d at s) (omega arith))
      ∙ ap (take (at + n)) (take_put s m e h)
      ∙ ap (λ (k : ℕ). take (k + n) (take at d ++ s)) (sym front)
      ∙ take-append-add (take at d) s n

  -- m elements of another list are put, of which the first n count: the buffer is this
  pub copied-over : (l : List A) (from m n : ℕ) (buffer : List A) → n ≤ m → from + m ≤ length l → at + m ≤ length d → buffer ≡ put d at (take m (drop from l)) → (take (at + n) buffer ≡ take at d ++ take n (drop from l)) × (length buffer ≡ length d)
  copied-over l from m n buffer le in-l in-d e =
      let s = drop from l in
      let there : length (take m s) ≡ m = simp (length-take, length-drop) (omega arith) in
      (ap (take (at + n)) e ∙ part-put (take m s) m n there le in-d ∙ ap (λ (r : List A). take at d ++ r) (take-take n m s le), ap length e ∙ length-put (take m s) m there in-d)

  -- ---- what stands already

  pub put_same : (m : ℕ) (s : List A) → length s ≡ m → take m (drop at d) ≡ s → put d at s ≡ d
  unfolding put
  put_same m s e h =
      ap₂ (λ (x : List A) (k : ℕ). (take at d ++ x) ++ drop (at + k) d) (sym h) e
      ∙ append_assoc (take at d) (take m (drop at d)) (drop (at + m) d)
      ∙ ap (λ (x : List A). take at d ++ (take m (drop at d) ++ x)) (sym (drop-drop m at d))
      ∙ ap (λ (x : List A). take at d ++ x) (take-append-drop m (drop at d))
      ∙ take-append-drop at d

module _ {A : Type 0} (d : List A) (at : ℕ) (v : A) (n m : ℕ) (buffer : List A) (h : at + n + m ≤ length d) (f : Filling d at v n buffer) where
  pub fill-run : Filling d at v (n + m) (put buffer (at + n) (replicate m v))
  fill-run = (
    ap (λ (l : List A). put l (at + n) (replicate m v)) f.0 ∙ put-put d at (replicate n v) (replicate m v) n (length-replicate n v) (omega arith) ∙ ap (put d at) (replicate-append-replicate n m v),
    length-put buffer (at + n) (replicate m v) m (length-replicate m v) (rw f.1 h) ∙ f.1,
  )

  -- by a part of a run that has v everywhere
  pub fill_part : (k : ℕ) (buffer' : List A) → m ≤ k → buffer' ≡ put buffer (at + n) (take m (replicate k v)) → Filling d at v (n + m) buffer'
  fill_part k buffer' l e = subst (Filling d at v (n + m)) (sym (e ∙ ap (put buffer (at + n)) (take-replicate m k v l))) fill-run

  pub fill-kept : take m (drop (at + n) buffer) ≡ replicate m v → Filling d at v (n + m) buffer
  fill-kept e = rw (put_same buffer (at + n) m (replicate m v) (length-replicate m v) e) at fill-run

-- ---- all 0

pub zero-all : (s : List ℕ) → all_zero s ≡ true → s ≡ replicate (length s) 0
unfolding all_zero
zero-all [] e = refl
zero-all (x ∷ s) e = by (eqb x 0) refl e (zero-all s) where
  by : (q : Bool) → eqb x 0 ≡ q → q && all_zero s ≡ true → (all_zero s ≡ true → s ≡ replicate (length s) 0) → x ∷ s ≡ 0 ∷ replicate (length s) 0
  by true h k rest = ap₂ (λ (y : ℕ) (l : List ℕ). y ∷ l) (eqb-true x 0 h) (rest k)
  by false h k rest = absurd (true≢false (sym k))

-- ---- cleared by blocks: so far the buffer is 0 up to w

module _ (d : List ℕ) (w : ℕ) (buffer : List ℕ) (f : Filling d 0 0 w buffer) where
  module _ (m : ℕ) (h : w + m ≤ length d) where
    pub block_filled : (b : List ℕ) → b ≡ put buffer w (replicate m 0) → Filling d 0 0 (w + m) b
    block_filled b e =
        let z : 0 + w ≡ w = omega arith in
        rw e (rw z at (fill-run d 0 0 w m buffer (omega arith) f))

    pub block_clean : (b : List ℕ) → b ≡ buffer → all_zero (take m (drop w buffer)) ≡ true → Filling d 0 0 (w + m) b
    block_clean b e k =
        let z : w ≡ 0 + w = omega arith in
        let there : length (take m (drop w buffer)) ≡ m = length-take-le m (drop w buffer) (simp length-drop (omega arith)) in
        let clean = zero-all (take m (drop w buffer)) k ∙ ap (λ (n : ℕ). replicate n 0) there in
        rw e (fill-kept d 0 0 w m buffer (omega arith) f (ap (λ (n : ℕ). take m (drop n buffer)) (sym z) ∙ clean))

  pub rest-cleared : (b : List ℕ) → w ≤ length d → b ≡ take w buffer ++ replicate (length buffer - w) 0 → b ≡ replicate (length d) 0
  rest-cleared b h e =
      let z : w ≡ 0 + w = omega arith in
      let front : take w buffer ≡ replicate w 0 = ap (take w) f.0 ∙ ap (λ (k : ℕ). take k (put d 0 (replicate w 0))) z ∙ take_put d 0 (replicate w 0) w (length-replicate w 0) (omega arith) in
      let all : w + (length buffer - w) ≡ length d = omega (arith, f.1) in
      e ∙ ap (λ (l : List ℕ). l ++ replicate (length buffer - w) 0) front ∙ replicate-append-replicate w (length buffer - w) 0 ∙ ap (λ (n : ℕ). replicate n 0) all
