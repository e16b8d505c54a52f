-- The step function ends where the rules end: a turn leads to where the rules lead, and so do a run and a whole layout. Node n unfolds to `at n`.
-- Assumes nothing.
use Prim.Native.Nat.{ℕ, zero, suc, ◌+◌, ◌-◌, ◌*◌, ◌≤◌, ◌<◌}
use mathlib.Core.Path.{◌≡◌, refl, sym, ap, ap₂, subst, ◌∙◌}
use mathlib.Core.Bool.{Bool, true, false, ◌||◌}
use mathlib.Core.List.{List, [], ◌∷◌}
use native.Mathlib.Omega.{arith}
use lib.ListN.{length, take, drop}
use lib.Dec.{leb, ltb}
use Rattle.choice.specs.Pick.{pick}
use Rattle.table.specs.Node.{Node, nil, append, group, flat_alt, nest, hardline, text, annotated, union, align, fail, node_at}
use Rattle.table.specs.Unfold.{Tree, tree_of, tree}
use Rattle.table.specs.Sound.{Sound, AllSound}
use Rattle.table.proofs.Unfolded.{tree-node}
use Rattle.rules.specs.Layout.{Limits, Page, blank, Mode, flat, broken, Due, broken_group, other, Outcome, done, failed, refused, steps, bytes, events, Report, report, also, and_then, try, chosen, next, nested, taken, fed, wrote, marked}
use Rattle.rules.specs.Layout as rules
use Rattle.rules.specs.Why.{due_in}
use Rattle.machine.specs.Waiting.{Saved, save, Entry, node, trial, closing, back, waiting}
use Rattle.machine.specs.Fit.{Verdict, fits, wide, due, item, reread, fit}
use Rattle.machine.specs.Turn.{Env, Turned, on, stop, put, event, decided, give_up, visit, end_trial, due_node, turn, ended, run, layout}
use Rattle.machine.specs.Well.{Stacked, weight, Well}
use Rattle.machine.proofs.Kept.{Next, turn-next, nodes_of}
use Rattle.machine.proofs.Ends.{visit_goes, visit_stops, or-false, also-false, Agree, back_now, back_agrees, longer_agrees, more_agrees, next-is, finish, finish-refused, finish-same, whole, whole-node, whole-done}
use Rattle.machine.proofs.Tested.{said, walks, walks-rest, reread-items, fit_is}

-- what is told of a run's end, and what was due
pub record Seen : Type 0 where
  pub told : Report
  pub due : Due

abbrev pub seen : Outcome → Seen
seen x = record { told = report x; due = due_in x }

module _ (E : Env) (at : ℕ → Tree) where
  abbrev L : Limits
  L = E.limits

  -- the steps made, where so many are left
  abbrev made : ℕ → ℕ
  made left = L.limit - left

  -- node n, where w waits
  abbrev lays : ℕ → ℕ → Mode → List Entry → Page → ℕ → Outcome
  lays n i m w p s = rules.lay L (at n) i m (waiting at w) p s

  -- how the run ends where what was on top ended as x
  abbrev after : Page → List Entry → Bool → Outcome → Outcome
  after p w past x = finish L at p w past x

  -- a run that ends as x is where a turn leads: it goes on to end so, or it stops with the turn's report, where d was due
  abbrev pub Onward : Due → Outcome → Turned → Type 0
  Onward d x (on p left past w) = x ≡ whole L at p w past (made left)
  Onward d x (stop a n left) = seen x ≡ record { told = ended E a n left; due = d }

  -- the same of an equal outcome
  as_well : (d : Due) {x y : Outcome} (t : Turned) → x ≡ y → Onward d y t → Onward d x t
  as_well d (on p left past w) e h = e ∙ h
  as_well d (stop a n left) e h = ap seen e ∙ h

  -- a node stands in the place of the one visited
  one-is : (n i : ℕ) (m : Mode) (p : Page) (left : ℕ) (past : Bool) (w : List Entry)
      → after p w past (lays n i m w p (made left)) ≡ whole L at p (node n i m ∷ w) past (made left)
  one-is n i m p left past w = sym (whole-node L at p n i m w past _)

  put_is : (N room : ℕ) (p q : Page) (left : ℕ) (past ends-past : Bool) (w : List Entry)
      → Stacked N room (length p.out) (length p.events) w → Agree (length p.out) (length p.events) p q
      → Onward other (after p w past (rules.put L q ends-past (made left))) (put L q left (past || ends-past) w)
  unfolding rules.put
  put_is N room p q left past ends-past w k e = go (leb (taken q) L.room)
    where
      go : (t : Bool)
          → Onward other (after p w past (elim t [ true ↦ done q ends-past (made left) | false ↦ refused bytes 0 (made left) ]))
          (pick t (on q left (past || ends-past) w) (stop 8 0 left))
      go true = whole-done L at N room p q w past ends-past _ k e
      go false = ap seen (finish-refused L at p w past bytes 0 _)

  -- `then` is what follows the event, and hands a refusal on
  event-is : (n m l : ℕ) (p : Page) (left : ℕ) (past : Bool) (w v : List Entry) (then : Outcome → Outcome)
      → after p w past (then (done (marked m l p) false (made left))) ≡ whole L at (marked m l p) v past (made left)
      → then (refused events n (made left)) ≡ refused events n (made left)
      → Onward other (after p w past (then (rules.event L n m l p (made left)))) (event L n m l p left past v)
  unfolding rules.event
  event-is n m l p left past w v then fitted full = go (ltb (length p.events) L.slots)
    where
      go : (t : Bool)
          → Onward other (after p w past (then (elim t [ true ↦ done (marked m l p) false (made left) | false ↦ refused events n (made left) ])))
          (pick t (on (marked m l p) left past v) (stop 9 n left))
      go true = fitted
      go false = ap (λ x. seen (after p w past x)) full ∙ ap seen (finish-refused L at p w past events n _)

  give_up-is : (p : Page) (left : ℕ) (past : Bool) (w : List Entry) → Onward other (after p w past (failed (made left))) (give_up p left w)
  unfolding finish
  give_up-is p left past [] = refl
  give_up-is p left past (node n i m ∷ w) = give_up-is p left past w
  give_up-is p left past (trial b i m a ∷ w) = one-is b i m (back a p) left a.past w
  give_up-is p left past (closing n l ∷ w) = give_up-is p left past w

  decided-is : (v : Verdict) (a i : ℕ) (p : Page) (past : Bool) (w : List Entry)
      → Onward other (after p w past (chosen (said L at v) (λ m s. lays a i m w p s))) (decided v a i p past w)
  decided-is (fits left) a i p past w = one-is a i flat p left past w
  decided-is (wide left) a i p past w = one-is a i broken p left past w
  decided-is (due n) a i p past w = ap seen (finish-refused L at p w past (steps other) n _)

  -- a trial begins
  union-is : (a b i : ℕ) (m : Mode) (p : Page) (left : ℕ) (past : Bool) (w : List Entry)
      → after p w past (try (lays a i m w p (made left)) (λ s. lays b i m w p s))
      ≡ whole L at p (node a i m ∷ trial b i m (save p past) ∷ w) false (made left)
  unfolding finish waiting
  union-is a b i m p left past w =
      ap (λ x. after p w past (try x (λ s. lays b i m w p s))) (sym (also-false (lays a i m w p (made left))))
      ∙ ap (λ q. after q w past (try (also false (lays a i m w p (made left))) (λ s. lays b i m w q s))) (sym (back_now p past))
      ∙ one-is a i m p left false (trial b i m _ ∷ w)

  end_trial-is : (N : ℕ) (past : Bool) (b i : ℕ) (m : Mode) (a : Saved) (p : Page) (left : ℕ) (w : List Entry)
      → Well L N p (trial b i m a ∷ w) → Onward other (whole L at p (trial b i m a ∷ w) past (made left)) (end_trial past b i m a p left w)
  unfolding whole finish
  end_trial-is N true b i m a p left w q = one-is b i m (back a p) left a.past w
  end_trial-is N false b i m a p left w q = finish-same L at N _ _ _ (back a p) p w a.past _ q.stack.2 (back_agrees a p)

  -- an annotation ends
  closing-is : (N n l : ℕ) (p : Page) (left : ℕ) (past : Bool) (w : List Entry)
      → Well L N p (closing n l ∷ w) → Onward other (whole L at p (closing n l ∷ w) past (made left)) (event L n 0 l p left past w)
  unfolding whole finish
  closing-is N n l p left past w q =
      event-is n 0 l p left past w w (also false) (finish-same L at N _ _ _ p (marked 0 l p) w past _ q.stack.1 (more_agrees p _)) refl

  -- what is due in layout at a node: a Group met broken, or another
  abbrev pub due_at : Node → Mode → List rules.Entry → ℕ → Due
  due_at nil m ws c = other
  due_at (append a b) m ws c = other
  due_at (group a) broken ws c = broken_group (at a) ws c
  due_at (group a) flat ws c = other
  due_at (flat_alt a b) m ws c = other
  due_at (nest a k way) m ws c = other
  due_at hardline m ws c = other
  due_at (text o l cols) m ws c = other
  due_at (annotated a l) m ws c = other
  due_at (union a b) m ws c = other
  due_at (align a) m ws c = other
  due_at fail m ws c = other

  -- with a step left it is visited, and a fit test's node may be due
  abbrev pub due_now : ℕ → Due → Due
  due_now zero d = d
  due_now (suc left) d = other

  -- what is due where a turn stops with 7
  abbrev pub due_turn : Page → ℕ → Entry → List Entry → Due
  due_turn p left (node n i m) w = due_now left (due_at (node_at E.table n) m (waiting at w) p.column)
  due_turn p left (trial b i m a) w = other
  due_turn p left (closing n l) w = other

  -- a node that is due with no step left
  due-is : (nd : Node) (n i : ℕ) (m : Mode) (p : Page) (ws : List rules.Entry)
      → rules.lay L (tree_of E.str at n nd) i m ws p (made zero) ≡ refused (steps (due_at nd m ws p.column)) n (made zero)
  unfolding rules.lay
  due-is nil n i m p ws = visit_stops L _ _
  due-is (append a b) n i m p ws = visit_stops L _ _
  due-is (group a) n i broken p ws = visit_stops L _ _
  due-is (group a) n i flat p ws = visit_stops L _ _
  due-is (flat_alt a b) n i broken p ws = visit_stops L _ _
  due-is (flat_alt a b) n i flat p ws = visit_stops L _ _
  due-is (nest a k way) n i m p ws = visit_stops L _ _
  due-is hardline n i m p ws = visit_stops L _ _
  due-is (text o l cols) n i m p ws = visit_stops L _ _
  due-is (annotated a l) n i m p ws = visit_stops L _ _
  due-is (union a b) n i m p ws = visit_stops L _ _
  due-is (align a) n i m p ws = visit_stops L _ _
  due-is fail n i m p ws = visit_stops L _ _

  module _ (N : ℕ) (valid : AllSound E.table (length E.str) N) (unfolds : (n : ℕ) → n < N → at n ≡ tree_of E.str at n (node_at E.table n)) where
    group-is : (n a i : ℕ) (p : Page) (left : ℕ) (past : Bool) (w : List Entry)
        → left < L.limit → a < n → Well L N p (node n i broken ∷ w)
        → Onward other (after p w past (chosen (rules.fit L (at a) flat (rules.rest L (waiting at w)) p.column (made left)) (λ m s. lays a i m w p s)))
        (visit E n (group a) i broken p left past w)
    unfolding walks
    group-is n a i p left past w h g q =
        let tested : rules.fit L (at a) flat (walks L at (reread w)) p.column (made left)
        ≡ said L at (fit E.table L.width left (item a flat ∷ reread w) p.column) =
        fit_is L at E.str E.table N valid unfolds left (item a flat ∷ reread w) p.column (omega arith)
        (omega (arith, q.stack.0.number), reread-items N w (nodes_of N _ _ _ w q.stack.1)) in
        as_well other (visit E n (group a) i broken p left past w)
        (ap (λ k. after p w past (chosen (rules.fit L (at a) flat k p.column (made left)) (λ m s. lays a i m w p s))) (sym (walks-rest L at w))
        ∙ ap (λ v. after p w past (chosen v (λ m s. lays a i m w p s))) tested)
        (decided-is (fit E.table L.width left (item a flat ∷ reread w) p.column) a i p past w)

    -- a node that is due with a step left
    visit-is : (nd : Node) (n i : ℕ) (m : Mode) (p : Page) (left : ℕ) (past : Bool) (w : List Entry)
        → left < L.limit → Sound (length E.str) n nd → Well L N p (node n i m ∷ w)
        → Onward other (after p w past (rules.lay L (tree_of E.str at n nd) i m (waiting at w) p (made (suc left)))) (visit E n nd i m p left past w)
    unfolding rules.lay finish whole waiting
    visit-is nil n i m p left past w h g q = ap (after p w past) (visit_goes L _ _ left h)
    visit-is (append a b) n i m p left past w h g q = ap (after p w past) (visit_goes L _ _ left h) ∙ one-is a i m p left past (node b i m ∷ w)
    visit-is (group a) n i broken p left past w h g q = as_well other (visit E n (group a) i broken p left past w) (ap (after p w past) (visit_goes L _ _ left h)) (group-is n a i p left past w h g q)
    visit-is (group a) n i flat p left past w h g q = ap (after p w past) (visit_goes L _ _ left h) ∙ one-is a i flat p left past w
    visit-is (flat_alt a b) n i broken p left past w h g q = ap (after p w past) (visit_goes L _ _ left h) ∙ one-is a i broken p left past w
    visit-is (flat_alt a b) n i flat p left past w h g q = ap (after p w past) (visit_goes L _ _ left h) ∙ one-is b i flat p left past w
    visit-is (nest a k way) n i m p left past w h g q = ap (after p w past) (visit_goes L _ _ left h) ∙ one-is a (nested way k i) m p left past w
    visit-is hardline n i m p left past w h g q =
        subst (Onward other _) (ap₂ (λ j o. put L (fed j p) left o w) (next-is L at i w) (or-false past))
        (as_well other (put L (fed (next (waiting at w) i) p) left (past || false) w) (ap (after p w past) (visit_goes L _ _ left h))
        (put_is N _ p (fed (next (waiting at w) i) p) left past false w q.stack.1 (longer_agrees p _ _)))
    visit-is (text o l cols) n i m p left past w h g q =
        as_well other (visit E n (text o l cols) i m p left past w) (ap (after p w past) (visit_goes L _ _ left h))
        (put_is N _ p (wrote (take l (drop o E.str)) cols p) left past _ w q.stack.1 (longer_agrees p _ _))
    visit-is (annotated a l) n i m p left past w h g q =
        as_well other (visit E n (annotated a l) i m p left past w) (ap (after p w past) (visit_goes L _ _ left h))
        (event-is n 1 l p left past w (node a i m ∷ closing n l ∷ w) (λ x. and_then x (λ p s. and_then (lays a i m w p s) (λ p s. rules.event L n 0 l p s)))
        (ap (after p w past) (also-false _)
        ∙ finish-same L at N _ _ _ p (marked 1 l p) w past _ q.stack.1 (more_agrees p _)
        ∙ one-is a i m (marked 1 l p) left past (closing n l ∷ w))
        refl)
    visit-is (union a b) n i m p left past w h g q = ap (after p w past) (visit_goes L _ _ left h) ∙ union-is a b i m p left past w
    visit-is (align a) n i m p left past w h g q = ap (after p w past) (visit_goes L _ _ left h) ∙ one-is a p.column m p left past w
    visit-is fail n i m p left past w h g q = as_well other (give_up p left w) (ap (after p w past) (visit_goes L _ _ left h)) (give_up-is p left past w)

    due_node-is : (n i : ℕ) (m : Mode) (p : Page) (left : ℕ) (past : Bool) (w : List Entry)
        → left ≤ L.limit → Well L N p (node n i m ∷ w)
        → Onward (due_now left (due_at (node_at E.table n) m (waiting at w) p.column))
        (after p w past (rules.lay L (tree_of E.str at n (node_at E.table n)) i m (waiting at w) p (made left)))
        (due_node E n i m p left past w)
    due_node-is n i m p zero past w h q =
        ap (λ x. seen (after p w past x)) (due-is (node_at E.table n) n i m p _) ∙ ap seen (finish-refused L at p w past _ n _)
    due_node-is n i m p (suc left) past w h q =
        visit-is (node_at E.table n) n i m p left past w (omega arith) (valid n (omega (arith, q.stack.0.number))) q

    pub turn_is : (p : Page) (left : ℕ) (past : Bool) (e : Entry) (w : List Entry)
        → left ≤ L.limit → Well L N p (e ∷ w) → Onward (due_turn p left e w) (whole L at p (e ∷ w) past (made left)) (turn E p left past e w)
    unfolding turn
    turn_is p left past (node n i m) w h q =
        as_well (due_now left (due_at (node_at E.table n) m (waiting at w) p.column)) (due_node E n i m p left past w)
        (whole-node L at p n i m w past _
        ∙ ap (λ t. after p w past (rules.lay L t i m (waiting at w) p (made left))) (unfolds n (omega (arith, q.stack.0.number))))
        (due_node-is n i m p left past w h q)
    turn_is p left past (trial b i m a) w h q = end_trial-is N past b i m a p left w q
    turn_is p left past (closing n l) w h q = closing-is N n l p left past w q

    run_is : (turns : ℕ) (p : Page) (left : ℕ) (past : Bool) (w : List Entry)
        → left ≤ L.limit → Well L N p w → 3 * left + weight w < turns → run E turns p left past w ≡ report (whole L at p w past (made left))
    unfolding run whole finish
    run_is zero p left past w h q less = absurd (omega arith)
    run_is (suc turns) p left past [] h q less = refl
    run_is (suc turns) p left past (e ∷ w) h q less =
        go (turn E p left past e w) (turn-next E N valid p left past e w q) (turn_is p left past e w h q)
        (λ p' left' past' w' h' q' less'. run_is turns p' left' past' w' h' q' less')
      where
        go : (t : Turned) → Next L N left (3 * left + weight (e ∷ w)) t → Onward (due_turn p left e w) (whole L at p (e ∷ w) past (made left)) t
            → ((p' : Page) (left' : ℕ) (past' : Bool) (w' : List Entry)
            → left' ≤ L.limit → Well L N p' w' → 3 * left' + weight w' < turns → run E turns p' left' past' w' ≡ report (whole L at p' w' past' (made left')))
            → elim t [ on p' left' past' w' ↦ run E turns p' left' past' w' | stop a n left' ↦ ended E a n left' ] ≡ report (whole L at p (e ∷ w) past (made left))
        go (on p' left' past' w') k same ih = ih p' left' past' w' (omega (arith, k.1)) k.0 (omega (arith, k.2)) ∙ ap report (sym same)
        go (stop a n left') k same ih = ap (λ z. z.told) (sym same)

-- the root alone waits, and no step is made
root_is : (L : Limits) (at : ℕ → Tree) (n : ℕ) → report (whole L at blank (node n 0 broken ∷ []) false (L.limit - L.limit)) ≡ rules.layout L (at n)
unfolding rules.layout finish waiting
root_is L at n =
    let e : L.limit - L.limit ≡ 0 = omega arith in
    ap report (whole-node L at blank n 0 broken [] false _ ∙ also-false (rules.lay L (at n) 0 broken [] blank (L.limit - L.limit))) ∙ ap (λ s. report (rules.lay L (at n) 0 broken [] blank s)) e

pub layout_is : (table str : List ℕ) (L : Limits) (N : ℕ) → 0 < N → N ≤ 1024 → AllSound table (length str) N → L.room ≤ 65536
    → layout (record { table = table; str = str; limits = L }) (N - 1) ≡ rules.layout L (tree table str (N - 1))
unfolding layout
layout_is table str L N some few valid room =
    run_is (record { table = table; str = str; limits = L }) (tree table str) N valid (λ n h. tree-node table str n (length str) (valid n h))
    (3 * L.limit + 2) blank L.limit false (node (N - 1) 0 broken ∷ []) (omega arith)
    (record { column = omega arith; fits = omega arith; room = room; stack = (record { number = omega arith; indent = omega arith }, tt) })
    (omega arith)
    ∙ root_is L (tree table str) (N - 1)
