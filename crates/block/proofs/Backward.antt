-- A loop over two lists of one length, both from the last to the first.
--     turn_back    this turn's pair, and that one is left
--     end_back     after the last turn all have come
-- Assumes nothing.
use Prim.Native.Nat.{ℕ, ◌-◌, ◌<◌}
use native.Mathlib.Omega.{arith}
use mathlib.Core.Path.{◌≡◌, ap, ◌∙◌}
use mathlib.Core.List.{List, [], ◌∷◌, ◌++◌}
use lib.ListN.{length, get_or, length-append}
use denote.Ref.{Bor}
use Rattle.std.specs.declared.iter.Rev.{Rev}
use Rattle.std.specs.declared.iter.Zip.{Zip}
use Rattle.std.specs.declared.slice.Iter.{Iter}
use Rattle.std.specs.Prelude.{Option, None, Some, reverse}
use Rattle.std.specs.List.{zip}
use Rattle.std.specs.Iterator.{Yields}
use Rattle.std.specs.Iterator.Adapters.{rev_steps, rev_source, zip_first, zip_second}
use Rattle.std.specs.Slice.Iter.{iter_rest, iter_steps_back}
use Rattle.std.proofs.lemmas.List.{get_or-reverse, length-reverse, get_or_default}
use Rattle.std.proofs.lemmas.Slice.Zip.{length-zip, get_or-zip}
use Rattle.std.proofs.lemmas.Iterator.{YieldsList, YieldsList-from_zip, zips}
use Rattle.std.proofs.lemmas.Iterator.Adapters.{YieldsList-from_rev_slice}
use Rattle.std.proofs.lemmas.Iterator.Consumers.{YieldsList-turn, YieldsList-end}

abbrev BothBack : {A B : Type 0} → Zip (Rev (Iter A)) (Rev (Iter B)) → Option (Bor A × Bor B) → Zip (Rev (Iter A)) (Rev (Iter B)) → Type 0
BothBack = zips (rev_steps iter_steps_back) (rev_steps iter_steps_back)

as-many : {A B : Type 0} (ps : List A) (qs : List B) → length qs ≡ length ps → length (zip (reverse ps) (reverse qs)) ≡ length ps
as-many ps qs e =
    let n = length-zip (reverse ps) (reverse qs) in
    let p = length-reverse ps in
    let q = length-reverse qs in
    omega (arith, n, p, q, e)

-- a turn more
pub one_more : {X : Type 0} (n : ℕ) (xs : List X) (x : X) → n - length (xs ++ (x ∷ [])) ≡ n - length xs - 1
one_more n xs x = let e = length-append xs (x ∷ []) in omega (arith, e)

module _ {A B : Type 0} (ps : List A) (qs : List B) (e : length qs ≡ length ps) (s : Zip (Rev (Iter A)) (Rev (Iter B)))
    (first : iter_rest (rev_source (zip_first s)) ≡ ps) (second : iter_rest (rev_source (zip_second s)) ≡ qs) where
  all-back : YieldsList BothBack (λ (p : Bor A × Bor B). (p.0.now, p.1.now)) s (zip (reverse ps) (reverse qs))
  all-back = YieldsList-from_zip (YieldsList-from_rev_slice ps first) (YieldsList-from_rev_slice qs second)

  module _ (xs : List (Bor A × Bor B)) (t : Zip (Rev (Iter A)) (Rev (Iter B))) (y : Yields BothBack s xs t) (r : Option (Bor A × Bor B)) (u : Zip (Rev (Iter A)) (Rev (Iter B))) where
    pub turn_back : (x : Bor A × Bor B) → r ≡ Some x → BothBack t r u
        → (0 < length ps - length xs) × ((d : A) → x.0.now ≡ get_or ps (length ps - length xs - 1) d) × ((d : B) → x.1.now ≡ get_or qs (length ps - length xs - 1) d)
    turn_back x is step =
        let m = YieldsList-turn all-back xs t y r u x is step in
        let n = as-many ps qs e in
        let k : length xs < length ps = omega (arith, m.0, n) in
        let p = length-reverse ps in
        let q = length-reverse qs in
        let pair = m.1 ∙ get_or-zip (reverse ps) (reverse qs) (length xs) (x.0.now, x.1.now) (omega arith) (omega arith) in (
          omega arith,
          λ d. ap (λ (v : A × B). v.0) pair
              ∙ get_or-reverse ps (length xs) x.0.now k
              ∙ get_or_default ps (length ps - 1 - length xs) x.0.now d (omega arith)
              ∙ ap (λ (i : ℕ). get_or ps i d) (omega arith),
          λ d. ap (λ (v : A × B). v.1) pair
              ∙ get_or-reverse qs (length xs) x.1.now (omega arith)
              ∙ get_or_default qs (length qs - 1 - length xs) x.1.now d (omega arith)
              ∙ ap (λ (i : ℕ). get_or qs i d) (omega arith),
        )

    pub end_back : r ≡ None → BothBack t r u → length ps ≡ length xs
    end_back is step =
        let m = YieldsList-end all-back xs t y r u is step in
        let n = as-many ps qs e in
        omega (arith, m.1, n)
