-- What a turn keeps: what goes on is well, no more steps are left than before, and a measure falls. Then the same for a visit of the fit test.
-- Assumes nothing.
use mathlib.Core.Path.{◌≡◌, refl}
use Prim.Native.Nat.{ℕ, suc, zero, ◌+◌, ◌*◌, ◌≤◌, ◌<◌}
use mathlib.Core.Bool.{Bool, true, false, ◌||◌}
use mathlib.Core.List.{List, [], ◌∷◌}
use native.Mathlib.Omega.{arith}
use lib.ListN.{length, take, drop, length-append, length-take, length-drop, length-replicate}
use lib.Dec.{leb, ltb}
use borrow.Author.Tests.{leb-true}
use Rattle.choice.specs.Pick.{pick}
use Rattle.table.specs.Node.{Way, adds, subtracts, Node, nil, append, group, flat_alt, nest, hardline, text, annotated, union, align, fail, node_at}
use Rattle.table.specs.Sound.{Sound, AllSound}
use Rattle.rules.specs.Layout.{Limits, Page, Mode, flat, broken, taken, fed, wrote, marked, nested}
use Rattle.machine.specs.Waiting.{Saved, takes, Entry, node, trial, closing, back, next_indent}
use Rattle.machine.specs.Fit.{Verdict, fits, wide, due, Item, item, reread, Walked, walk, say, hardline_fits, text_fits, by_mode, look, fit}
use Rattle.machine.specs.Turn.{Env, Turned, on, stop, put, event, decided, grouped, give_up, visit, end_trial, due_node, turn}
use Rattle.machine.specs.Well.{Placed, Stacked, weight, Well, Nodes, FitStacked}

-- ---- what waits

-- more bytes and events do no harm
pub stacked_mono : (N room bytes bytes' events events' : ℕ) (w : List Entry) → bytes ≤ bytes' → events ≤ events'
    → Stacked N room bytes events w → Stacked N room bytes' events' w
stacked_mono N r b b' v v' [] h g s = tt
stacked_mono N r b b' v v' (node n i m ∷ w) h g s = (s.0, stacked_mono N r b b' v v' w h g s.1)
stacked_mono N r b b' v v' (trial x i m a ∷ w) h g s =
    let k = s.1 in
    (s.0, record { column = k.column; fits = k.fits; bytes = omega arith; events = omega arith }, s.2)
stacked_mono N r b b' v v' (closing n l ∷ w) h g s = (s.0, stacked_mono N r b b' v v' w h g s.1)

-- no more than N wait
pub stacked-length : (N room bytes events : ℕ) (w : List Entry) → Stacked N room bytes events w → length w ≤ N
stacked-length N r b v [] s = omega arith
stacked-length N r b v (node n i m ∷ w) s = omega (arith, s.0.number)
stacked-length N r b v (trial x i m a ∷ w) s = omega (arith, s.0.number)
stacked-length N r b v (closing n l ∷ w) s = omega (arith, s.0)

pub nodes_of : (N room bytes events : ℕ) (w : List Entry) → Stacked N room bytes events w → Nodes N w
nodes_of N r b v [] s = tt
nodes_of N r b v (node n i m ∷ w) s = (omega (arith, s.0.number), nodes_of N r b v w s.1)
nodes_of N r b v (trial x i m a ∷ w) s = nodes_of N r a.bytes a.events w s.2
nodes_of N r b v (closing n l ∷ w) s = nodes_of N r b v w s.1

-- a node in the place of another, with a lower number and an indentation at most 1,000 more; the same with another above it
pub placed_lower : (N height n i n' i' : ℕ) → n' < n → i' ≤ i + 1000 → Placed N height n i → Placed N height n' i'
placed_lower N height n i n' i' lt le k = record { number = omega arith; indent = omega arith }

placed_above : (N height n i n' : ℕ) → n' < n → Placed N height n i → Placed N (suc height) n' i
placed_above N height n i n' lt k = record { number = omega arith; indent = omega arith }

-- the room that a page put back takes
taken_back : (a : Saved) (p : Page) → a.bytes ≤ length p.out → taken (back a p) ≡ takes a
taken_back a p le = simp length-take (omega arith)

-- after a turn that began with `left` steps left and the measure μ
abbrev pub Next : Limits → ℕ → ℕ → ℕ → Turned → Type 0
Next L N left μ (stop a n left') = (a ≤ 9) × (left' ≤ left)
Next L N left μ (on p left' past w) = Well L N p w × (left' ≤ left) × (3 * left' + weight w < μ)

-- ---- the fit test leaves no more steps than it had

abbrev pub Left : ℕ → Verdict → Type 0
Left l (fits k) = k ≤ l
Left l (wide k) = k ≤ l
Left l (due n) = Unit {0}

abbrev LeftSaid : ℕ → Walked → Type 0
LeftSaid l (walk is c) = Unit {0}
LeftSaid l (say v) = Left l v

left_mono : (l l' : ℕ) (v : Verdict) → l ≤ l' → Left l v → Left l' v
left_mono l l' (fits k) h p = omega arith
left_mono l l' (wide k) h p = omega arith
left_mono l l' (due n) h p = tt

hardline-left : (m : Mode) (l : ℕ) → LeftSaid l (hardline_fits m l)
hardline-left broken l = omega arith
hardline-left flat l = omega arith

text-left : (q : Bool) (is : List Item) (c l : ℕ) → LeftSaid l (text_fits q is c l)
text-left true is c l = tt
text-left false is c l = omega arith

look-left : (width : ℕ) (nd : Node) (m : Mode) (is : List Item) (c l : ℕ) → LeftSaid l (look width nd m is c l)
look-left width nil m is c l = tt
look-left width (append a b) m is c l = tt
look-left width (group a) m is c l = tt
look-left width (flat_alt a b) m is c l = tt
look-left width (nest a k way) m is c l = tt
look-left width hardline m is c l = hardline-left m l
look-left width (text o n k) m is c l = text-left (leb (c + k) width) is (c + k) l
look-left width (annotated a t) m is c l = tt
look-left width (union a b) m is c l = tt
look-left width (align a) m is c l = tt
look-left width fail m is c l = omega arith

pub fit-left : (table : List ℕ) (width l : ℕ) (is : List Item) (c : ℕ) → Left l (fit table width l is c)
unfolding fit
fit-left T W zero [] c = omega arith
fit-left T W zero (item n m ∷ is) c = tt
fit-left T W (suc l) [] c = omega arith
fit-left T W (suc l) (item n m ∷ is) c = go (look W (node_at T n) m is c l) (look-left W (node_at T n) m is c l) (λ is' c'. fit-left T W l is' c')
  where
    go : (v : Walked) → LeftSaid l v → ((is' : List Item) (c' : ℕ) → Left l (fit T W l is' c')) → Left (suc l) (elim v [ walk is' c' ↦ fit T W l is' c' | say v' ↦ v' ])
    go (walk is' c') p ih = left_mono l (suc l) (fit T W l is' c') (omega arith) (ih is' c')
    go (say v') p ih = left_mono l (suc l) v' (omega arith) p

by_mode_less : (m : Mode) (a b n : ℕ) → a < n → b < n → by_mode m a b < n
by_mode_less broken a b n h g = h
by_mode_less flat a b n h g = g

pub nested-le : (way : Way) (k i : ℕ) → nested way k i ≤ i + k
nested-le adds k i = omega arith
nested-le subtracts k i = omega arith

-- ---- a turn

module _ (E : Env) (N : ℕ) where
  -- what is written is no shorter than the page was, and backs its column
  put_next : (p p' : Page) (left : ℕ) (past : Bool) (w : List Entry) (μ : ℕ)
      → p'.column ≤ taken p' → length p.out ≤ length p'.out → length p.events ≤ length p'.events
      → E.limits.room ≤ 65536 → Stacked N E.limits.room (length p.out) (length p.events) w → 3 * left + weight w < μ
      → Next E.limits N (suc left) μ (put E.limits p' left past w)
  put_next p p' left past w μ h longer more room s less = go (leb (taken p') E.limits.room) refl
    where
      go : (t : Bool) → leb (taken p') E.limits.room ≡ t → Next E.limits N (suc left) μ (pick t (on p' left past w) (stop 8 0 left))
      go true e = (record { column = h; fits = leb-true _ _ e; room = room; stack = stacked_mono N _ _ _ _ _ w longer more s }, omega arith, less)
      go false e = (omega arith, omega arith)

  event-next : (n m l : ℕ) (p : Page) (left left₀ : ℕ) (past : Bool) (w : List Entry) (μ : ℕ)
      → left ≤ left₀ → Well E.limits N p w → 3 * left + weight w < μ → Next E.limits N left₀ μ (event E.limits n m l p left past w)
  event-next n m l p left left₀ past w μ h q less = go (ltb (length p.events) E.limits.slots)
    where
      go : (t : Bool) → Next E.limits N left₀ μ (pick t (on (marked m l p) left past w) (stop 9 n left))
      go true = (
        record {
          column = q.column;
          fits = q.fits;
          room = q.room;
          stack = simp length-append (stacked_mono N _ _ _ (length p.events) (length p.events + 1) w (omega arith) (omega arith) q.stack);
        },
        h,
        less,
      )
      go false = (omega arith, h)

  -- the second arm in the place of its trial
  back_well : (p : Page) (b i : ℕ) (m : Mode) (a : Saved) (w : List Entry)
      → E.limits.room ≤ 65536
      → Stacked N E.limits.room (length p.out) (length p.events) (trial b i m a ∷ w) → Well E.limits N (back a p) (node b i m ∷ w)
  back_well p b i m a w room s =
      let k = s.1 in
      let bytes : length (take a.bytes p.out) ≡ a.bytes = simp length-take (omega arith) in
      let events : length (take a.events p.events) ≡ a.events = simp length-take (omega arith) in
      let t = taken_back a p k.bytes in
      record { column = rw t k.column; fits = rw t k.fits; room = room; stack = rw (bytes, events) (s.0, s.2) }

  give_up-next : (p : Page) (left : ℕ) (w : List Entry) (μ : ℕ)
      → E.limits.room ≤ 65536 → Stacked N E.limits.room (length p.out) (length p.events) w → 3 * left + weight w < μ
      → Next E.limits N (suc left) μ (give_up p left w)
  give_up-next p left [] μ room s less = (omega arith, omega arith)
  give_up-next p left (node n i m ∷ w) μ room s less = give_up-next p left w μ room s.1 (omega arith)
  give_up-next p left (trial b i m a ∷ w) μ room s less = (back_well p b i m a w room s, omega arith, omega arith)
  give_up-next p left (closing n l ∷ w) μ room s less = give_up-next p left w μ room s.1 (omega arith)

  -- one node in the place of n, with no more steps left
  one-next : (a n i j : ℕ) (m m' : Mode) (p : Page) (left left' : ℕ) (past : Bool) (w : List Entry)
      → a < n → j ≤ i + 1000 → left' ≤ left → Well E.limits N p (node n i m ∷ w)
      → Next E.limits N (suc left) (3 * suc left + suc (weight w)) (on p left' past (node a j m' ∷ w))
  one-next a n i j m m' p left left' past w lt le fewer q =
      let s = q.stack in
      (record { column = q.column; fits = q.fits; room = q.room; stack = (placed_lower N _ n i a j lt le s.0, s.1) }, omega arith, omega arith)

  decided-next : (v : Verdict) (a n i : ℕ) (m : Mode) (p : Page) (left : ℕ) (past : Bool) (w : List Entry)
      → Left left v → a < n → Well E.limits N p (node n i m ∷ w) → Next E.limits N (suc left) (3 * suc left + suc (weight w)) (decided v a i p past w)
  decided-next (fits k) a n i m p left past w h lt q = one-next a n i i m flat p left k past w lt (omega arith) h q
  decided-next (wide k) a n i m p left past w h lt q = one-next a n i i m broken p left k past w lt (omega arith) h q
  decided-next (due k) a n i m p left past w h lt q = (omega arith, omega arith)

  grouped-next : (m : Mode) (a n i : ℕ) (p : Page) (left : ℕ) (past : Bool) (w : List Entry)
      → a < n → Well E.limits N p (node n i m ∷ w)
      → Next E.limits N (suc left) (3 * suc left + suc (weight w)) (grouped E.table E.limits.width m a i p left past w)
  grouped-next broken a n i p left past w lt q = decided-next (fit _ _ left (item a flat ∷ reread w) p.column) a n i broken p left past w (fit-left _ _ left _ _) lt q
  grouped-next flat a n i p left past w lt q = one-next a n i i flat flat p left left past w lt (omega arith) (omega arith) q

  -- q: with the node that is visited on top
  visit-next : (nd : Node) (n i : ℕ) (m : Mode) (p : Page) (left : ℕ) (past : Bool) (w : List Entry)
      → Sound (length E.str) n nd → Well E.limits N p (node n i m ∷ w)
      → Next E.limits N (suc left) (3 * suc left + suc (weight w)) (visit E n nd i m p left past w)
  visit-next nil n i m p left past w g q = (record { column = q.column; fits = q.fits; room = q.room; stack = q.stack.1 }, omega arith, omega arith)
  visit-next (append a b) n i m p left past w g q =
      let s = q.stack in (
        record {
          column = q.column;
          fits = q.fits;
          room = q.room;
          stack = (placed_above N _ n i a g.0 s.0, (placed_lower N _ n i b i g.1 (omega arith) s.0, s.1));
        },
        omega arith,
        omega arith,
      )
  visit-next (group a) n i m p left past w g q = grouped-next m a n i p left past w g q
  visit-next (flat_alt a b) n i m p left past w g q =
      one-next (by_mode m a b) n i i m m p left left past w (by_mode_less m a b n g.0 g.1) (omega arith) (omega arith) q
  visit-next (nest a k way) n i m p left past w g q =
      one-next a n i (nested way k i) m m p left left past w g.0 (omega (arith, g.1, nested-le way k i)) (omega arith) q
  visit-next hardline n i m p left past w g q =
      put_next p (fed (next_indent i w) p) left past w _
      (simp (length-append, length-replicate) (omega arith))
      (simp (length-append, length-replicate) (omega arith))
      (omega arith)
      q.room
      q.stack.1
      (omega arith)
  visit-next (text o l cols) n i m p left past w g q =
      let e : length (take l (drop o E.str)) ≡ l = simp (length-take, length-drop) (omega (arith, g.0)) in
      put_next p (wrote (take l (drop o E.str)) cols p) left (past || ltb E.limits.width (p.column + cols)) w _
      (simp (length-append, e) (omega (arith, q.column, g.1)))
      (simp (length-append, e) (omega arith))
      (omega arith)
      q.room
      q.stack.1
      (omega arith)
  visit-next (annotated a l) n i m p left past w g q =
      let s = q.stack in
      event-next n 1 l p left (suc left) past (node a i m ∷ closing n l ∷ w) _ (omega arith)
      (record { column = q.column; fits = q.fits; room = q.room; stack = (placed_above N _ n i a g s.0, (s.0.number, s.1)) })
      (omega arith)
  visit-next (union a b) n i m p left past w g q =
      let s = q.stack in (
        record {
          column = q.column;
          fits = q.fits;
          room = q.room;
          stack = (
            placed_above N _ n i a g.0 s.0,
            (
              placed_lower N _ n i b i g.1 (omega arith) s.0,
              record { column = q.column; fits = q.fits; bytes = omega arith; events = omega arith },
              s.1,
            ),
          );
        },
        omega arith,
        omega arith,
      )
  visit-next (align a) n i m p left past w g q =
      let s = q.stack in (
        record {
          column = q.column;
          fits = q.fits;
          room = q.room;
          stack = (record { number = omega (arith, s.0.number, g); indent = omega (arith, s.0.number, g, q.column, q.fits, q.room) }, s.1);
        },
        omega arith,
        omega arith,
      )
  visit-next fail n i m p left past w g q = give_up-next p left w _ q.room q.stack.1 (omega arith)

  end_trial-next : (past : Bool) (b i : ℕ) (m : Mode) (a : Saved) (p : Page) (left : ℕ) (w : List Entry)
      → Well E.limits N p (trial b i m a ∷ w) → Next E.limits N left (3 * left + suc (suc (weight w))) (end_trial past b i m a p left w)
  end_trial-next true b i m a p left w q = (back_well p b i m a w q.room q.stack, omega arith, omega arith)
  end_trial-next false b i m a p left w q =
      let s = q.stack in
      (record { column = q.column; fits = q.fits; room = q.room; stack = stacked_mono N _ _ _ _ _ w s.1.bytes s.1.events s.2 }, omega arith, omega arith)

  due_node-next : AllSound E.table (length E.str) N → (n i : ℕ) (m : Mode) (p : Page) (left : ℕ) (past : Bool) (w : List Entry)
      → Well E.limits N p (node n i m ∷ w) → Next E.limits N left (3 * left + suc (weight w)) (due_node E n i m p left past w)
  due_node-next valid n i m p zero past w q = (omega arith, omega arith)
  due_node-next valid n i m p (suc left) past w q = visit-next (node_at E.table n) n i m p left past w (valid n (omega (arith, q.stack.0.number))) q

pub turn-next : (E : Env) (N : ℕ) → AllSound E.table (length E.str) N → (p : Page) (left : ℕ) (past : Bool) (e : Entry) (w : List Entry)
    → Well E.limits N p (e ∷ w) → Next E.limits N left (3 * left + weight (e ∷ w)) (turn E p left past e w)
unfolding turn
turn-next E N valid p left past (node n i m) w q = due_node-next E N valid n i m p left past w q
turn-next E N valid p left past (trial b i m a) w q = end_trial-next E N past b i m a p left w q
turn-next E N valid p left past (closing n l) w q =
    event-next E N n 0 l p left left past w _ (omega arith) (record { column = q.column; fits = q.fits; room = q.room; stack = q.stack.1 }) (omega arith)

-- ---- a visit of the fit test

abbrev pub FitNext : ℕ → Walked → Type 0
FitNext N (walk is c) = FitStacked N is × (c ≤ 65536)
FitNext N (say v) = Unit {0}

text_walked : (N width : ℕ) (is : List Item) (c l : ℕ) → width ≤ 65536 → FitStacked N is → FitNext N (text_fits (leb c width) is c l)
text_walked N width is c l h s = go (leb c width) refl
  where
    go : (q : Bool) → leb c width ≡ q → FitNext N (text_fits q is c l)
    go true e = (s, omega (arith, leb-true c width e))
    go false e = tt

hardline_walked : (N : ℕ) (m : Mode) (l : ℕ) → FitNext N (hardline_fits m l)
hardline_walked N broken l = tt
hardline_walked N flat l = tt

pub walked_next : (N width len n : ℕ) (nd : Node) (m : Mode) (is : List Item) (c left : ℕ)
    → width ≤ 65536 → c ≤ 65536 → Sound len n nd → FitStacked N (item n m ∷ is) → FitNext N (look width nd m is c left)
walked_next N W len n nil m is c l hw hc g s = (s.1, hc)
walked_next N W len n (append a b) m is c l hw hc g s = ((omega (arith, s.0, g.0), (omega (arith, s.0, g.1), s.1)), hc)
walked_next N W len n (group a) m is c l hw hc g s = ((omega (arith, s.0, g), s.1), hc)
walked_next N W len n (flat_alt a b) m is c l hw hc g s = ((omega (arith, s.0, by_mode_less m a b n g.0 g.1), s.1), hc)
walked_next N W len n (nest a k way) m is c l hw hc g s = ((omega (arith, s.0, g.0), s.1), hc)
walked_next N W len n hardline m is c l hw hc g s = hardline_walked N m l
walked_next N W len n (text o t k) m is c l hw hc g s = text_walked N W is (c + k) l hw s.1
walked_next N W len n (annotated a t) m is c l hw hc g s = ((omega (arith, s.0, g), s.1), hc)
walked_next N W len n (union a b) m is c l hw hc g s = ((omega (arith, s.0, g.1), s.1), hc)
walked_next N W len n (align a) m is c l hw hc g s = ((omega (arith, s.0, g), s.1), hc)
walked_next N W len n fail m is c l hw hc g s = tt
