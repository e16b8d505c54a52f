-- How many of some nodes are no Nil, as the library counts. Assumes nothing.
use Prim.Native.Nat.{ℕ, suc, ◌+◌}
use native.Mathlib.Omega.{arith}
use mathlib.Core.Path.{◌≡◌, refl}
use mathlib.Core.Bool.{Bool, true, false}
use mathlib.Core.List.{List}
use lib.Dec.{eqb}
use Rattle.choice.specs.Pick.{pick}
use Rattle.table.specs.Node.{word}
use Rattle.std.proofs.Common.{count_by, cond, not}
use Rattle.std.proofs.lemmas.List.Recursion.{is_count_by}
use Rattle.build.specs.Solid.{solid}

pub solid_is : (table ns : List ℕ) → solid table ns ≡ count_by (λ n. not (eqb (word table n 0) 0)) ns
unfolding solid
solid_is table = is_count_by (solid table) (λ n. not (eqb (word table n 0) 0)) refl (λ n ns. by (eqb (word table n 0) 0) (solid table ns))
  where
    by : (q : Bool) (k : ℕ) → pick q k (suc k) ≡ cond (not q) (1 + k) k
    by true k = refl
    by false k = omega arith
