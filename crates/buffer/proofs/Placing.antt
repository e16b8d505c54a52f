-- The laws of writing into a row of blanks from the front.
--     front-is                  the bytes written are the front
--     placed                    what was put
--     place-adds, blanks-add    what is put is written behind them, and so are blanks passed over
--     then-adds                 one thing more
--     written_at                what is written into blanks from a place on
-- Assumes nothing.
use Prim.Native.Nat.{ℕ, zero, suc, ◌+◌, ◌-◌, ◌≤◌, min}
use native.Mathlib.Omega.{arith}
use native.Mathlib.Nat.{zero-min, min-zero, suc-min-suc}
use mathlib.Core.Path.{◌≡◌, refl, sym, ap, ap₂, ◌∙◌, subst}
use mathlib.Core.List.{List, [], ◌∷◌, ◌++◌, append_assoc}
use lib.ListN.{length, take, drop, replicate, length-take, length-append, length-replicate, replicate-append-replicate}
use lib.Seq.{take_at, drop_at, drop-drop, take-append-add}
use Rattle.buffer.specs.Run.{put}
use Rattle.buffer.proofs.Put.{length-put, put_same}
use Rattle.buffer.specs.Placing.{Placed, Written, Adds}

-- ---- blanks

abbrev blanks : ℕ → List ℕ
blanks n = replicate n 32

drop-blanks : (k m : ℕ) → k ≤ m → drop k (blanks m) ≡ blanks (m - k)
drop-blanks k m h =
    let e : m ≡ k + (m - k) = omega arith in
    ap (λ (n : ℕ). drop k (blanks n)) e ∙ ap (drop k) (sym (replicate-append-replicate k (m - k) 32)) ∙ drop_at (blanks k) (blanks (m - k)) k (length-replicate k 32)

take-blanks : (n m : ℕ) → take n (blanks m) ≡ blanks (min n m)
take-blanks zero m = rw zero-min refl
take-blanks (suc n) zero = rw min-zero refl
take-blanks (suc n) (suc m) = rw suc-min-suc (ap (λ (l : List ℕ). 32 ∷ l) (take-blanks n m))

blank-written : (n k : ℕ) → k ≤ n → Written (blanks n) k (blanks k)
blank-written n k h =
    let e : n ≡ k + (n - k) = omega arith in
    record {
      all = ap (λ (m : ℕ). blanks m) e ∙ sym (replicate-append-replicate k (n - k) 32) ∙ ap (λ (m : ℕ). blanks k ++ blanks (m - k)) (sym (length-replicate n 32));
      size = length-replicate k 32;
    }

-- ---- what is written

module _ {out : List ℕ} {n : ℕ} {bytes : List ℕ} (w : Written out n bytes) where
  within : n ≤ length out
  within =
      let e : length out ≡ length bytes + (length out - n) = ap length w.all ∙ simp (length-append, length-replicate) in
      omega (arith, w.size)

  front-is : take n out ≡ bytes
  front-is = ap (take n) w.all ∙ take_at bytes (blanks (length out - n)) n w.size

  behind-is : drop n out ≡ blanks (length out - n)
  behind-is = ap (drop n) w.all ∙ drop_at bytes (blanks (length out - n)) n w.size

  cut-is : (more : List ℕ) → take (length out) (bytes ++ more) ≡ bytes ++ take (length out - n) more
  cut-is more =
      let e : length out ≡ length bytes + (length out - n) = omega (arith, within, w.size) in
      ap (λ (k : ℕ). take k (bytes ++ more)) e ∙ take-append-add bytes more (length out - n)

take_min : (m : ℕ) (l : List ℕ) → take (min m (length l)) l ≡ take m l
take_min zero l = rw zero-min refl
take_min (suc m) [] = rw min-zero refl
take_min (suc m) (x ∷ l) = rw suc-min-suc (ap (λ (t : List ℕ). x ∷ t) (take_min m l))

-- as many bytes are put as there are and there is room for
pub placed : (out : List ℕ) (at : ℕ) (bytes out' : List ℕ) (n : ℕ) → n ≡ min (length out - at) (length bytes) → out' ≡ put out at (take n bytes) → Placed out at bytes out' (at + n)
placed out at bytes out' n e is =
    let cut : take n bytes ≡ take (length out - at) bytes = ap (λ (k : ℕ). take k bytes) e ∙ take_min (length out - at) bytes in
    record { all = is ∙ ap (put out at) cut; end = ap (λ (k : ℕ). at + k) (e ∙ sym (length-take (length out - at) bytes)) }

-- a row stays as long as it is, and what is put ends in it
pub placed-length : {out : List ℕ} {at : ℕ} {more out' : List ℕ} {r : ℕ} → Placed out at more out' r → at ≤ length out → (length out' ≡ length out) × (r ≤ length out')
placed-length {out} {at} {more} p h =
    let cut = take (length out - at) more in
    let small : at + length cut ≤ length out = simp length-take (omega arith) in
    let same = ap length p.all ∙ length-put out at cut (length cut) refl small in
    (same, omega (arith, p.end))

-- what is put is written behind what was
pub place-adds : {out : List ℕ} {at : ℕ} {more out' : List ℕ} {r : ℕ} → Placed out at more out' r → Adds out at more out' r
unfolding put
place-adds {out} {at} {more} {out'} {r} p = λ bytes w.
    let m = length out - at in
    let cut = take m more in
    let k = length cut in
    let small : k ≤ m = simp length-take (omega arith) in
    let same = (placed-length p (within w)).0 in
    let left : m - k ≡ length out' - r = omega (arith, p.end) in
    let rest : drop (at + k) out ≡ blanks (length out' - r) =
    sym (drop-drop k at out) ∙ ap (drop k) (behind-is w) ∙ drop-blanks k m small ∙ ap (λ (j : ℕ). blanks j) left in
    record {
      all = p.all ∙ ap₂ (λ (a b : List ℕ). a ++ cut ++ b) (front-is w) rest ∙ ap (λ (l : List ℕ). l ++ blanks (length out' - r)) (sym (cut-is w more));
      size = ap length (cut-is w more) ∙ length-append bytes cut ∙ ap (λ (j : ℕ). j + k) w.size ∙ sym p.end;
    }

-- blanks that are passed over are written
pub blanks-add : (out : List ℕ) (at by r : ℕ) → at ≤ length out → r ≡ at + min (length out - at) by → Adds out at (blanks by) out r
blanks-add out at by r h e = λ bytes w.
    let m = length out - at in
    let cut = take-blanks m by in
    let least : min (min m by) m ≡ min m by = omega arith in
    let stands : take (min m by) (drop at out) ≡ take m (blanks by) = ap (take (min m by)) (behind-is w) ∙ take-blanks (min m by) m ∙ ap (λ (j : ℕ). blanks j) least ∙ sym cut in
    place-adds (record { all = sym (put_same out at (min m by) (take m (blanks by)) (ap length cut ∙ length-replicate (min m by) 32) stands); end = e ∙ ap (λ (j : ℕ). at + j) (sym (ap length cut ∙ length-replicate (min m by) 32)) }) bytes w

-- ---- one after the other

take_cut : (n : ℕ) (xs ys : List ℕ) → take n (take n xs ++ ys) ≡ take n (xs ++ ys)
take_cut zero xs ys = refl
take_cut (suc n) [] ys = refl
take_cut (suc n) (x ∷ xs) ys = ap (λ (l : List ℕ). x ∷ l) (take_cut n xs ys)

pub then-adds : (out out' out'' a b : List ℕ) (at r s : ℕ) → Adds out at a out' r → length out' ≡ length out → Adds out' r b out'' s → Adds out at (a ++ b) out'' s
then-adds out out' out'' a b at r s f e g = λ bytes w.
    let is : take (length out') (take (length out) (bytes ++ a) ++ b) ≡ take (length out) (bytes ++ (a ++ b)) =
    ap (λ (n : ℕ). take n (take (length out) (bytes ++ a) ++ b)) e ∙ take_cut (length out) (bytes ++ a) b ∙ ap (take (length out)) (append_assoc bytes a b) in
    subst (Written out'' s) is (g (take (length out) (bytes ++ a)) (f bytes w))

-- what is written into n blanks from place k on
pub written_at : (n k : ℕ) (more out : List ℕ) (r : ℕ) → k ≤ n → Adds (replicate n 32) k more out r → take r out ≡ take n (replicate k 32 ++ more)
written_at n k more out r h f = front-is (f (replicate k 32) (blank-written n k h)) ∙ ap (λ (m : ℕ). take m (replicate k 32 ++ more)) (length-replicate n 32)
