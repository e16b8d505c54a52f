-- Groups in a row: a step down leaves what the fit test says.
-- Assumes nothing.
use mathlib.Core.Path.{◌≡◌, sym, ap, ◌∙◌}
use Prim.Native.Nat.{ℕ, suc, ◌+◌, ◌-◌, ◌*◌, ◌<◌}
use native.Mathlib.Omega.{arith}
use mathlib.Core.List.{List, ◌∷◌}
use lib.ListN.{get_or}
use Rattle.table.specs.Node.{Node, group, node_at}
use Rattle.table.proofs.Nodes.{node-is}
use Rattle.rules.specs.Layout.{Mode, flat}
use Rattle.machine.specs.Fit.{Item, item, walk, say, look, fit, reread}
use Rattle.waiting.specs.Stack.{stack_of}
use Rattle.fitting.specs.Fitting.{Fitting, Fitted, Known, Below}
use Rattle.std.specs.Prelude.{Result}
use Rattle.table.specs.declared.NodeNo.{NodeNo}
use Rattle.fitting.specs.declared.fit.Fit.{Fit}

-- a Group is walked through
fit-group : (T : List ℕ) (W left x a c : ℕ) (m : Mode) (is : List Item) → node_at T x ≡ group a → fit T W (suc left) (item x m ∷ is) c ≡ fit T W left (item a m ∷ is) c
unfolding fit
fit-group T W left x a c m is e = ap (λ (v : Node). elim (look W v m is c left) [ walk is' c' ↦ fit T W left is' c' | say v' ↦ v' ]) e

module _ (T : List ℕ) (n left : ℕ) where
  pub row-start : Below T n left 0
  row-start =
      let e : left - 0 ≡ left = omega arith in
      let f : n - 0 ≡ n = omega arith in
      record { nodes = omega arith; steps = omega arith; said = λ W c m is. rw (e, f) }

  -- a Group at d below n, and its child next to it
  row_next : (d x : ℕ) → Below T n left d → x ≡ n - d → d < left → get_or T (x * 4) 0 ≡ 2 → get_or T (x * 4 + 1) 0 + 1 ≡ x
      → Below T n left (d + 1)
  row_next d x b here some kind child =
      let e : left - d ≡ suc (left - (d + 1)) = omega arith in
      let f : get_or T (x * 4 + 1) 0 ≡ n - (d + 1) = omega arith in
      let g : node_at T x ≡ group (n - (d + 1)) = node-is T x 2 kind ∙ ap group f in
      record {
        nodes = omega (arith, b.nodes);
        steps = omega arith;
        said = λ W c m is. sym (fit-group T W (left - (d + 1)) x (n - (d + 1)) c m is g) ∙ (rw (e, ← here) at (b.said W c m is));
      }

-- what the loop keeps: from n, known, it stands at x, so many nodes below
pub record InRow (T : List ℕ) (n left x down : ℕ) : Type 0 where
  pub known : Known T n
  pub below : Below T n left down
  pub here : x ≡ n - down

module _ {T : List ℕ} {n left x down : ℕ} (r : InRow T n left x down) (kind : get_or T (x * 4) 0 ≡ 2) where
  -- what a valid table says of a Group's child
  pub child-below : get_or T (x * 4 + 1) 0 < x
  child-below = rw (node-is T x 2 kind) at (r.known.valid x (omega (arith, r.known.node, r.here)))

  pub row_on : down < left → get_or T (x * 4 + 1) 0 + 1 ≡ x → InRow T n left (x - 1) (down + 1)
  row_on some child =
      record { known = r.known; below = row_next T n left down x r.below r.here some kind child; here = omega (arith, r.here, child-below) }

-- from the end of the row to its start
pub row-known : {T w : List ℕ} {W x d c : ℕ} → Fitting T w W x d c → Known T x
row-known f = record { N = f.N; size = 65536; valid = f.valid; words = f.words; node = f.child }

pub row-fitting : {T w : List ℕ} {W x d c left down : ℕ} → Below T x left down → Fitting T w W x d c → Fitting T w W (x - down) d c
row-fitting b f =
    record {
      N = f.N;
      valid = f.valid;
      words = f.words;
      small = f.small;
      child = omega (arith, f.child);
      nodes = f.nodes;
      deep = f.deep;
      area = f.area;
      width = f.width;
      column = f.column;
    }

pub row_fitted : {T w w' : List ℕ} {W x d c left down : ℕ} {r : Result Fit NodeNo} → Below T x left down → Fitted T W (x - down) d c (left - down) w r w'
    → Fitted T W x d c left w r w'
row_fitted {w = w} {W = W} {d = d} {c = c} b f = record { same = f.same; said = f.said ∙ b.said W c flat (reread (stack_of d w)) }
