-- Pairs of tables whose documents differ at one place by a relation, for tests that antt computes: that both are valid and laid out, as these bytes.
-- Assumes nothing.
use Prim.Native.Nat.{ℕ}
use Prim.Native.String.{String}
use mathlib.Core.Path.{◌≡◌}
use mathlib.Core.Bool.{Bool, true, false, ◌&&◌}
use mathlib.Core.List.{List, [], ◌∷◌}
use lib.Dec.{T, eqb, eqb→eq}
use Rattle.table.specs.Node.{Node}
use Rattle.table.specs.Fault.{check}
use Rattle.table.specs.Valid.{Valid}
use Rattle.table.specs.Document.{Doc}
use Rattle.rules.specs.Call.{Given, call}
use Rattle.rules.specs.Law.{document}
use Rattle.table.proofs.Accept.{valid_if-zero}
use Rattle.rules.proofs.Case.{ascii-bytes, on, same}

-- a table over the text of all pairs
unfoldable pub over : List Node → ℕ → Given
unfolding on
over nodes width = on nodes "abcd" width

-- two tables at one width, whose documents are related, and what each gives
pub record Pair (R : Doc → Doc → Type 0) : Type 0 where
  pub width : ℕ
  pub one : List Node
  pub other : List Node
  pub gives : String
  pub gives' : String
  pub related : R (document (over one width)) (document (over other width))

-- a table is valid and laid out, as these bytes
unfoldable pub lays : Given → String → Bool
unfolding same ascii-bytes
lays g bytes = eqb (check g.table g.text).answer 0 && eqb (call g).answer 0 && same (call g).bytes (ascii-bytes bytes)

pub laid : (g : Given) (bytes : String) → T (lays g bytes) → Valid g.table g.text × ((call g).answer ≡ 0)
unfolding lays
laid g bytes t =
    let valid = eqb (check g.table g.text).answer 0 in
    let answer = eqb (call g).answer 0 in
    let (v, a) = halves valid answer (halves (valid && answer) _ t).0 in
    (valid_if-zero g.table g.text (eqb→eq _ 0 v), eqb→eq _ 0 a)
  where
    halves : (a b : Bool) → T (a && b) → T a × T b
    halves true b t = (tt, t)
    halves false b t = absurd t

module _ {R : Doc → Doc → Type 0} where
  -- both are
  unfoldable pub both : Pair R → Bool
  both e = lays (over e.one e.width) e.gives && lays (over e.other e.width) e.gives'

  pub both-laid : (e : Pair R) → T (both e) → T (lays (over e.one e.width) e.gives) × T (lays (over e.other e.width) e.gives')
  unfolding both
  both-laid e t = by (lays (over e.one e.width) e.gives) t
    where
      by : (a : Bool) → T (a && lays (over e.other e.width) e.gives') → T a × T (lays (over e.other e.width) e.gives')
      by true t = (tt, t)
      by false t = absurd t

  unfoldable pub all : List (Pair R) → Bool
  unfolding both lays
  all [] = true
  all (e ∷ es) = both e && all es
