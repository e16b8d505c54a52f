-- The bounds of document 01, over a valid table of at most 1,024 nodes:
--     waiting_bound   waiting entries never pass 1,023
--     indent_bound    the indentation never passes 65,536 + 1,023 x 1,000 = 1,088,536
--     column_bound    the column never passes 65,536
--     fit_bound       what a fit test has still to walk never passes 1,023 nodes either
-- Assumes nothing.
use mathlib.Core.Path.{subst}
use Prim.Native.Nat.{ℕ, ◌+◌, ◌-◌, ◌*◌, ◌≤◌, ◌<◌}
use mathlib.Core.Bool.{Bool}
use mathlib.Core.List.{List, [], ◌∷◌}
use native.Mathlib.Omega.{arith}
use lib.ListN.{length}
use Rattle.table.specs.Node.{node_at}
use Rattle.table.specs.Sound.{AllSound}
use Rattle.rules.specs.Layout.{Page}
use Rattle.machine.specs.Waiting.{Entry, node, trial, closing}
use Rattle.machine.specs.Fit.{Item, item, Walked}
use Rattle.machine.specs.Turn.{Env, Turned}
use Rattle.machine.specs.Well.{Stacked, weight, Well, FitStacked}
use Rattle.machine.specs.Reached.{Reached, start, turned, Walks, takes, looks, Indents}
use Rattle.machine.proofs.Kept.{Next, turn-next, FitNext, walked_next}

-- ---- what the invariant says of a stack

below_top : (N room bytes events : ℕ) (e : Entry) (w : List Entry) → Stacked N room bytes events (e ∷ w) → length w < N
below_top N r b v (node n i m) w s = omega (arith, s.0.number)
below_top N r b v (trial n i m a) w s = omega (arith, s.0.number)
below_top N r b v (closing n l) w s = omega (arith, s.0)

indents : (N room bytes events : ℕ) (w : List Entry) → N ≤ 1024 → Stacked N room bytes events w → Indents 1088536 w
indents N r b v [] few s = tt
indents N r b v (node n i m ∷ w) few s = (omega (arith, s.0), indents N r b v w few s.1)
indents N r b v (trial n i m a ∷ w) few s = (omega (arith, s.0), indents N r a.bytes a.events w few s.2)
indents N r b v (closing n l ∷ w) few s = indents N r b v w few s.1

-- ---- a run

module _ (E : Env) (N : ℕ) (some : 0 < N) (few : N ≤ 1024) (valid : AllSound E.table (length E.str) N) (room : E.limits.room ≤ 65536) where
  reached_well : {p : Page} {left : ℕ} {past : Bool} {w : List Entry} → Reached E (N - 1) p left past w → Well E.limits N p w
  reached_well start = record { column = omega arith; fits = omega arith; room = room; stack = (record { number = omega arith; indent = omega arith }, tt) }
  reached_well (turned {p = p} {left = left} {past = past} {e = e} {w = w} r t) =
      (subst (λ (x : Turned). Next E.limits N left (3 * left + weight (e ∷ w)) x) t (turn-next E N valid p left past e w (reached_well r))).0

  pub waiting_bound : {p : Page} {left : ℕ} {past : Bool} {e : Entry} {w : List Entry} → Reached E (N - 1) p left past (e ∷ w) → length w ≤ 1023
  waiting_bound {e = e} {w = w} r = omega (arith, below_top N _ _ _ e w (reached_well r).stack)

  pub indent_bound : {p : Page} {left : ℕ} {past : Bool} {w : List Entry} → Reached E (N - 1) p left past w → Indents 1088536 w
  indent_bound {w = w} r = indents N _ _ _ w few (reached_well r).stack

  pub column_bound : {p : Page} {left : ℕ} {past : Bool} {w : List Entry} → Reached E (N - 1) p left past w → p.column ≤ 65536
  column_bound r = let q = reached_well r in omega (arith, q.column, q.fits, room)

-- ---- a fit test

record Walking (N : ℕ) (is : List Item) (c : ℕ) : Type 0 where
  stack : FitStacked N is
  column : c ≤ 65536

module _ (table : List ℕ) (len width N : ℕ) (few : N ≤ 1024) (valid : AllSound table len N) (wide : width ≤ 65536) where
  walking : {is : List Item} {c : ℕ} → Walks table width N is c → Walking N is c
  walking (takes h k) = record { stack = (omega (arith, h), tt); column = k }
  walking (looks {n = n} {c = c} {m = m} {is = is} left r t) =
      let q = walking r in
      let f = subst (λ (x : Walked). FitNext N x) t (walked_next N width len n (node_at table n) m is c left wide q.column (valid n (omega (arith, q.stack.0))) q.stack) in
      record { stack = f.0; column = f.1 }

  pub fit_bound : {c : ℕ} {i : Item} {is : List Item} → Walks table width N (i ∷ is) c → length is ≤ 1023
  fit_bound {i = item n m} r = omega (arith, (walking r).stack.0)
