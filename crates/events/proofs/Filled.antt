-- A slice that a loop fills from its start: after i turns its first i elements are the new ones, and the rest is as it was.
--     records-length, records-same    m elements by their number; all of them the same
--     filled-..                       before the first turn, one turn more, after the last turn
-- Assumes nothing.
use mathlib.Core.Path.{◌≡◌, refl, sym, ap, ◌∙◌}
use mathlib.Core.List.{List, [], ◌∷◌, ◌++◌, append-nil}
use Prim.Native.Nat.{ℕ, zero, suc, ◌+◌, ◌<◌}
use native.Mathlib.Numerals.{add-one}
use lib.ListN.{length, set, drop, replicate, length-append, replicate-append-replicate}
use lib.Seq.{drop-cons, set_at, append_snoc, drop-length}
use Rattle.events.specs.Records.{records}

module _ {A : Type 0} where
  pub records-length : (f : ℕ → A) (m : ℕ) → length (records f m) ≡ m
  unfolding records
  records-length f zero = refl
  records-length f (suc m) = simp (length-append, records-length f m) (add-one m)

  records-suc : (f : ℕ → A) (m : ℕ) → records f m ++ (f m ∷ []) ≡ records f (m + 1)
  unfolding records
  records-suc f m = rw add-one

  pub records-same : (x : A) (m : ℕ) → records (λ (_ : ℕ). x) m ≡ replicate m x
  unfolding records
  records-same x zero = refl
  records-same x (suc m) =
      ap (λ (l : List A). l ++ (x ∷ [])) (records-same x m) ∙ replicate-append-replicate m 1 x ∙ ap (λ (k : ℕ). replicate k x) (add-one m)

  -- i new elements, and the rest of d
  pub filled : (ℕ → A) → List A → ℕ → List A
  filled f d i = records f i ++ drop i d

  pub filled_0 : (f : ℕ → A) (d : List A) → filled f d 0 ≡ d
  unfolding filled records
  filled_0 f d = refl

  pub filled_more : (f : ℕ → A) (d : List A) (i : ℕ) (old new : A) → new ≡ f i → i < length d → set (filled f d i) i new ≡ filled f d (i + 1)
  unfolding filled
  filled_more f d i old new e h =
      ap (λ (x : A). set (records f i ++ drop i d) i x) e
      ∙ ap (λ (l : List A). set (records f i ++ l) i (f i)) (drop-cons d i old h)
      ∙ set_at (records f i) _ (drop (suc i) d) (f i) i (records-length f i)
      ∙ sym (append_snoc (records f i) (f i) (drop (suc i) d))
      ∙ ap (λ (l : List A). l ++ drop (suc i) d) (records-suc f i)
      ∙ ap (λ (k : ℕ). records f (i + 1) ++ drop k d) (sym (add-one i))

  pub filled-all : (f : ℕ → A) (d : List A) → filled f d (length d) ≡ records f (length d)
  unfolding filled
  filled-all f d = ap (λ (l : List A). records f (length d) ++ l) (drop-length d) ∙ append-nil (records f (length d))
