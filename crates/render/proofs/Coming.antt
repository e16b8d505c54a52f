-- The states that a run comes through, over several turns of the step function in one; and the turn that stops it.
--     comes-on     a turn with a step left, some more of these, and what is taken up after them
-- Assumes nothing.
use mathlib.Core.Path.{◌≡◌, refl, ap}
use Prim.Native.Nat.{ℕ, zero, suc, ◌<◌}
use native.Mathlib.Omega.{arith}
use mathlib.Core.Bool.{Bool, true, false}
use mathlib.Core.List.{List, [], ◌∷◌}
use lib.ListN.{length}
use lib.Dec.{ltb}
use Rattle.choice.specs.Pick.{pick}
use Rattle.rules.specs.Layout.{Page, marked}
use Rattle.machine.specs.Waiting.{Entry, node, trial, closing}
use Rattle.machine.specs.Turn.{Env, Turned, on, stop, turn}
use Rattle.machine.specs.Reached.{Reached, turned, Stops}
use Rattle.render.specs.Visit.{again}
use Rattle.render.specs.TakeUp.{take_up, up_from}

-- the answer of a turn that stops
abbrev answer_of : Turned → ℕ
answer_of (on p left past w) = 0
answer_of (stop a n left) = a

module _ (E : Env) (root : ℕ) where
  -- a state that the run comes through, or a turn that stops it
  abbrev pub Comes : Turned → Type 0
  Comes (on p left past w) = Reached E root p left past w
  Comes (stop a n left) = Stops E root a n left

  -- one turn, with a step left or with an answer that is not 7
  comes-turn : {p : Page} {left : ℕ} {past : Bool} {e : Entry} {w : List Entry} → Reached E root p left past (e ∷ w)
      → (t : Turned) → turn E p left past e w ≡ t → ((a n k : ℕ) → t ≡ stop a n k → a ≡ 7 → 0 < left) → Comes t
  comes-turn r (on p left past w) same more = turned r same
  comes-turn {p} {left} {past} {e} {w} r (stop a n k) same more =
      record { page = p; before = left; past = past; entry = e; below = w; reached = r; turns = same; more = more a n k refl }

  comes-visit : {p : Page} {left : ℕ} {past : Bool} {e : Entry} {w : List Entry} → Reached E root p (suc left) past (e ∷ w) → Comes (turn E p (suc left) past e w)
  comes-visit r = comes-turn r _ refl (λ a n k e seven. omega arith)

  -- what is taken up
  comes_up : (w : List Entry) (past : Bool) {p : Page} {left : ℕ} → Reached E root p left past w → Comes (take_up E.limits p left past w)
  unfolding take_up turn
  comes_up [] past r = r
  comes_up (node n i m ∷ w) past r = r
  comes_up (trial b i m s ∷ w) true r = turned r refl
  comes_up (trial b i m s ∷ w) false r = comes_up w s.past (turned r refl)
  comes_up (closing n l ∷ w) past {p} {left} r = by (ltb (length p.events) E.limits.slots) refl (λ q. comes_up w past q)
    where
      by : (b : Bool) → ltb (length p.events) E.limits.slots ≡ b
          → (Reached E root (marked 0 l p) left past w → Comes (take_up E.limits (marked 0 l p) left past w))
          → Comes (pick b (take_up E.limits (marked 0 l p) left past w) (stop 9 n left))
      by true e up = up (turned r (rw e))
      by false e up = comes-turn r (stop 9 n left) (rw e) (λ a x k same seven. absurd (omega (arith, ap answer_of same, seven)))

  -- some turns more
  comes-again : (k : ℕ) (t : Turned) → Comes t → Comes (again E k t)
  comes-again zero t c = c
  comes-again (suc k) (on p zero past w) c = c
  comes-again (suc k) (on p (suc left) past []) c = c
  comes-again (suc k) (on p (suc left) past (e ∷ w)) c = comes-again k (turn E p (suc left) past e w) (comes-visit c)
  comes-again (suc k) (stop a n left) c = c

  comes-from : (t : Turned) → Comes t → Comes (up_from E.limits t)
  comes-from (on p left past w) c = comes_up w past c
  comes-from (stop a n left) c = c

  pub comes-on : {p : Page} {left : ℕ} {past : Bool} {e : Entry} {w : List Entry} (k : ℕ) → Reached E root p (suc left) past (e ∷ w)
      → Comes (up_from E.limits (again E k (turn E p (suc left) past e w)))
  comes-on k r = comes-from (again E k (turn E _ _ _ _ _)) (comes-again k (turn E _ _ _ _ _) (comes-visit r))
