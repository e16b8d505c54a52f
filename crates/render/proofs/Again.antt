-- Some turns more: one after the others, what they keep, and Nests in a row.
-- Assumes nothing.
use mathlib.Core.Path.{◌≡◌, refl, sym, ap, ◌∙◌, subst}
use Prim.Native.Nat.{ℕ, zero, suc, ◌+◌, ◌-◌, ◌*◌, ◌≤◌, ◌<◌}
use native.Mathlib.Omega.{arith}
use mathlib.Core.Bool.{Bool}
use mathlib.Core.List.{List, [], ◌∷◌}
use lib.ListN.{length, get_or}
use Rattle.table.specs.Node.{Node, nest, Way, way_of, node_of, node_at}
use Rattle.table.specs.Sound.{AllSound, Sound}
use Rattle.table.specs.declared.Indent.{Indent}
use Rattle.table.specs.declared.NodeNo.{NodeNo}
use Rattle.table.proofs.Nodes.{node-is}
use Rattle.rules.specs.Layout.{Limits, Page, Mode, nested}
use Rattle.machine.specs.Waiting.{Entry, node}
use Rattle.machine.specs.Turn.{Env, Turned, on, stop, turn, visit}
use Rattle.machine.specs.Well.{weight}
use Rattle.machine.proofs.Kept.{Next, turn-next, nested-le}
use Rattle.waiting.specs.Stack.{mode_of, top}
use Rattle.waiting.specs.declared.Due.{Due}
use Rattle.render.specs.Visit.{again, Held, Came}

-- one turn after the others
again-more : (E : Env) (k : ℕ) (t : Turned) → again E (suc k) t ≡ again E 1 (again E k t)
again-more E zero t = refl
again-more E (suc k) (on p zero o w) = refl
again-more E (suc k) (on p (suc left) o []) = refl
again-more E (suc k) (on p (suc left) o (e ∷ w)) = again-more E k (turn E p (suc left) o e w)
again-more E (suc k) (stop a n left) = refl

-- no more steps, a larger measure
next-within : (L : Limits) (N left left' μ μ' : ℕ) (t : Turned) → left ≤ left' → μ ≤ μ' → Next L N left μ t → Next L N left' μ' t
next-within L N left left' μ μ' (on p l o w) le lm h = (h.0, omega (arith, h.1), omega (arith, h.2))
next-within L N left left' μ μ' (stop a n l) le lm h = (h.0, omega (arith, h.1))

pub again-next : (E : Env) (N : ℕ) → AllSound E.table (length E.str) N → (k left μ : ℕ) (t : Turned) → Next E.limits N left μ t → Next E.limits N left μ (again E k t)
again-next E N valid zero left μ t h = h
again-next E N valid (suc k) left μ (on p zero o w) h = h
again-next E N valid (suc k) left μ (on p (suc l) o []) h = h
again-next E N valid (suc k) left μ (on p (suc l) o (e ∷ w)) h =
    again-next E N valid k left μ (turn E p (suc l) o e w) (next-within E.limits N (suc l) left (3 * suc l + weight (e ∷ w)) μ (turn E p (suc l) o e w) h.1 (omega (arith, h.2)) (turn-next E N valid p (suc l) o e w h.0))
again-next E N valid (suc k) left μ (stop a n l) h = h

-- ---- Nests in a row

-- a Nest's child goes on, at its indentation
nest-turn : (E : Env) (p : Page) (left : ℕ) (o : Bool) (n a k i : ℕ) (way : Way) (m : Mode) (w : List Entry) → node_at E.table n ≡ nest a k way → again E 1 (on p (suc left) o (node n i m ∷ w)) ≡ on p left o (node a (nested way k i) m ∷ w)
unfolding turn
nest-turn E p left o n a k i way m w e = ap (λ (v : Node). visit E n v i m p left o w) e

-- what the loop keeps: the node due, and how the step function came there from the start
pub record Falling (T : List ℕ) (steps : ℕ) (start : Due) (left : ℕ) (due : Due) : Type 0 where
  pub held : Held T due
  pub came : Came T steps start (record { left = left; due = due })

pub falls-start : (T : List ℕ) (steps : ℕ) (start : Due) → Held T start → Falling T steps start steps start
falls-start T steps start h = record { held = h; came = record { more = 0; said = λ E p o w e. refl } }

-- the Nest due
module _ {T : List ℕ} {h : Due} (f : Held T h) (kind : get_or T (h.node.0 * 4) 0 ≡ 4) where
  abbrev n : ℕ
  n = h.node.0

  sound : Sound f.known.size n (node_of 4 (get_or T (n * 4 + 1) 0) (get_or T (n * 4 + 2) 0) (get_or T (n * 4 + 3) 0))
  sound = rw (node-is T n 4 kind) at (f.known.valid n f.known.node)

  pub nest-below : get_or T (n * 4 + 1) 0 < n
  nest-below = sound.0

  pub nest-small : h.indent.0 + get_or T (n * 4 + 2) 0 ≤ 2000000
  nest-small = omega (arith, sound.1, f.indent, f.small)

  -- its child stands next to it
  module _ (i : Indent) (child : get_or T (n * 4 + 1) 0 + 1 ≡ n) (ei : i.0 ≡ nested (way_of (get_or T (n * 4 + 3) 0)) (get_or T (n * 4 + 2) 0) h.indent.0) where
    abbrev lower : Due
    lower = record { node = record { 0 = n - 1 }; indent = i; mode = h.mode }

    held_next : Held T lower
    held_next =
        record {
          known = record { N = f.known.N; size = f.known.size; valid = f.known.valid; words = f.known.words; node = omega (arith, f.known.node) };
          small = f.small;
          indent = omega (arith, f.indent, sound.1, nested-le (way_of (get_or T (n * 4 + 3) 0)) (get_or T (n * 4 + 2) 0) h.indent.0);
        }

    came-next : (steps left : ℕ) (start : Due) → Came T steps start (record { left = left; due = h }) → 0 < left → Came T steps start (record { left = left - 1; due = lower })
    came-next steps left start c some =
        let e : left ≡ suc (left - 1) = omega arith in
        let a : get_or T (n * 4 + 1) 0 ≡ n - 1 = omega arith in
        record {
          more = suc c.more;
          said = λ E p o w table.
              again-more E c.more (on p steps o (top start ∷ w)) ∙ ap (again E 1) (c.said E p o w table) ∙ ap (λ (k : ℕ). again E 1 (on p k o (top h ∷ w))) e
              ∙ nest-turn E p (left - 1) o n (n - 1) (get_or T (n * 4 + 2) 0) h.indent.0 (way_of (get_or T (n * 4 + 3) 0)) (mode_of h.mode.0) w (ap (λ (t : List ℕ). node_at t n) table ∙ node-is T n 4 kind ∙ ap (λ (x : ℕ). nest x (get_or T (n * 4 + 2) 0) (way_of (get_or T (n * 4 + 3) 0))) a)
              ∙ ap (λ (x : ℕ). on p (left - 1) o (node (n - 1) x (mode_of h.mode.0) ∷ w)) (sym ei);
        }

    pub falls-next : (x : NodeNo) → x.0 ≡ n - 1 → {steps left : ℕ} {start : Due} → Falling T steps start left h → 0 < left
        → Falling T steps start (left - 1) (record { node = x; indent = i; mode = h.mode })
    falls-next x ex {steps} {left} {start} c some =
        let next : Falling T steps start (left - 1) lower = record { held = held_next; came = came-next _ _ _ c.came some } in
        subst (λ (k : ℕ). Falling T steps start (left - 1) (record { node = record { 0 = k }; indent = i; mode = h.mode })) (sym ex) next
