-- Four words put at the end of the counted ones. Assumes nothing.
use Prim.Native.Nat.{ℕ, ◌+◌, ◌<◌}
use native.Mathlib.Omega.{arith}
use native.Mathlib.Numerals.{add-one, add-two, add-three}
use mathlib.Core.Path.{◌≡◌, sym, ap, ◌∙◌}
use mathlib.Core.List.{List, [], ◌∷◌, ◌++◌}
use lib.ListN.{length, take, drop, set, length-append, length-take}
use lib.Seq.{sets-eq}
use Rattle.build.specs.Draft.{over}

-- four stores from the end of the counted words on
pub words-put : (table : List ℕ) (at k a b c : ℕ) → at + 3 < length table
    → set (set (set (set table at k) (at + 1) a) (at + 2) b) (at + 3) c ≡ over (take at table ++ (k ∷ a ∷ b ∷ c ∷ [])) table
words-put table at k a b c h =
    let four : List ℕ = k ∷ a ∷ b ∷ c ∷ [] in
    let e : length (take at table ++ four) ≡ at + 4 = simp (length-append, length-take) (omega arith) in
    rw (add-one at, add-two at, add-three at) (sets-eq four table at (omega arith) ∙ ap (λ (n : ℕ). take at table ++ four ++ drop n table) (sym e))
