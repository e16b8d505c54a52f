use mathlib.Core.Path.{◌≡◌, refl, sym, ap, ◌∙◌}
use native.Mathlib.Omega.{arith}
use native.Mathlib.Numerals.{unary_clauses}
use Prim.Native.Nat.{ℕ}
use lib.ListN.{length, take, length-set}
use lib.Seq.{take_all}
use mathlib.Core.List.{List}
use Rattle.pursegable.specs.Building.{flags_of}
use Rattle.pursegable.proofs.Flags.{flags-more}
use Rattle.pursegable.proofs.building.set_flags.Goals as goal

pub loop-i-init : goal.loop-i-init
unfolding flags_of
loop-i-init c = record { so_far = refl; extent = refl }

pub loop-i-preserved : goal.loop-i-preserved
loop-i-preserved c =
    let L = c.loop-i in
    let a = c.args in
    record {
      so_far = simp unary_clauses (flags-more L.i a.bytes.now L.flags (omega arith) (omega arith) L.invariant.so_far);
      extent = simp length-set L.invariant.extent;
    }

pub returns : goal.returns
returns c =
    let L = c.loop-i in
    let a = c.args in
    let e : L.i ≡ length a.bytes.now = omega arith in
    ap (λ (m : ℕ). take m L.flags) (sym e) ∙ L.invariant.so_far ∙ ap (λ (l : List ℕ). flags_of l) (take_all L.i a.bytes.now (omega arith))
