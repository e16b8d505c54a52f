-- The run: what the loop keeps, and how a turn keeps it.
-- Assumes nothing.
use mathlib.Core.Path.{◌≡◌, refl, sym, ap, subst, ◌∙◌}
use Prim.Native.Nat.{ℕ, suc, zero, ◌+◌, ◌-◌, ◌*◌, ◌≤◌, ◌<◌}
use native.Mathlib.Omega.{arith}
use mathlib.Core.Bool.{Bool, true, false}
use Rattle.std.specs.Prelude.{Result, Ok, Err}
use mathlib.Core.List.{List, [], ◌∷◌}
use lib.ListN.{length}
use lib.Dec.{ltb}
use Rattle.choice.specs.Pick.{pick}
use Rattle.table.specs.Sound.{AllSound}
use Rattle.table.specs.declared.refusal.Refusal.TheVariants.{NoSteps}
use Rattle.table.specs.Refusal.{number}
use Rattle.rules.specs.Layout.{Page, Report, marked}
use Rattle.machine.specs.Waiting.{Entry, node, trial, closing}
use Rattle.machine.specs.Turn.{Env, Turned, on, stop, turn, run, layout, ended}
use Rattle.machine.specs.Well.{Well, weight}
use Rattle.machine.specs.Reached.{Reached, Stops}
use Rattle.machine.proofs.Kept.{Next, turn-next, nodes_of}
use Rattle.waiting.specs.Area.{due_of}
use Rattle.waiting.specs.Stack.{flag_of, top, stack_of}
use Rattle.waiting.specs.declared.Due.{Due}
use Rattle.waiting.proofs.Laws.{length-stack}
use Rattle.page.specs.Reading.{events_of, page_of, Within}
use Rattle.page.proofs.Events.{length-events}
use Rattle.page.proofs.Pages.{taken_is}
use Rattle.lay.specs.Turning.{turned_of}
use Rattle.lay.specs.declared.State.{State}
use Rattle.lay.specs.declared.Turn.{Turn}
use Rattle.lay.specs.declared.Turn.TheVariants.{Go, Done}
use Rattle.lay.specs.declared.Stopped.{Stopped}
use Rattle.render.specs.Visit.{Start, Ready, env_of, again}
use Rattle.render.specs.TakeUp.{take_up, up_from, TurnedUp}
use Rattle.render.specs.Best.{Laid, RanTo}
use Rattle.render.specs.declared.Ran.TheVariants.{Ended, AtLimit}
use Rattle.render.proofs.Coming.{Comes, comes-on}

-- ---- several turns of the step function in one

module _ (E : Env) (N : ℕ) (valid : AllSound E.table (length E.str) N) where
  -- the report x is that of a run from t, which is well, has no more steps left than `left`, and a measure below `most`
  abbrev Reaches : ℕ → ℕ → Report → Turned → Type 0
  Reaches left most x (on p left' o w) =
      (turns : ℕ) × Well E.limits N p w × (left' ≤ left) × (3 * left' + weight w < turns) × (x ≡ run E turns p left' o w) × (3 * left' + weight w < most)
  Reaches left most x (stop a n left') = (left' ≤ left) × (x ≡ ended E a n left')

  -- one turn
  run-turn : (turns : ℕ) (p : Page) (left : ℕ) (o : Bool) (e : Entry) (w : List Entry) → Well E.limits N p (e ∷ w) → 3 * left + weight (e ∷ w) < turns → Reaches left (3 * left + weight (e ∷ w)) (run E turns p left o (e ∷ w)) (turn E p left o e w)
  unfolding run
  run-turn zero p left o e w q lt = absurd (omega arith)
  run-turn (suc turns) p left o e w q lt = go (turn E p left o e w) (turn-next E N valid p left o e w q)
    where
      go : (t : Turned) → Next E.limits N left (3 * left + weight (e ∷ w)) t → Reaches left (3 * left + weight (e ∷ w)) (elim t [ on p' left' past' w' ↦ run E turns p' left' past' w' | stop a n left' ↦ ended E a n left' ]) t
      go (on p' left' o' w') h = (turns, h.0, h.1, omega (arith, h.2), refl, h.2)
      go (stop a n left') h = (h.1, refl)

  reaches-from : (left left' most most' : ℕ) (x y : Report) (t : Turned) → left ≤ left' → most ≤ most' → x ≡ y → Reaches left most y t → Reaches left' most' x t
  reaches-from left left' most most' x y (on p l o w) le lm e h = (h.0, h.1, omega (arith, h.2), h.3, e ∙ h.4, omega (arith, h.5))
  reaches-from left left' most most' x y (stop a n l) le lm e h = (omega (arith, h.0), e ∙ h.1)

  -- what waits is taken up
  run_up : (w : List Entry) (turns : ℕ) (p : Page) (left : ℕ) (o : Bool) → Well E.limits N p w → 3 * left + weight w < turns → Reaches left (suc (3 * left + weight w)) (run E turns p left o w) (take_up E.limits p left o w)
  unfolding take_up turn
  run_up [] turns p left o q lt = (turns, q, omega arith, lt, refl, omega arith)
  run_up (node n i m ∷ w) turns p left o q lt = (turns, q, omega arith, lt, refl, omega arith)
  run_up (trial b i m s ∷ w) turns p left true q lt =
      let t = run-turn turns p left true (trial b i m s) w q lt in
      (t.0, t.1, t.2, t.3, t.4, omega (arith, t.5))
  run_up (trial b i m s ∷ w) turns p left false q lt =
      let t = run-turn turns p left false (trial b i m s) w q lt in
      reaches-from left left (suc (3 * left + weight w)) _ _ _ (take_up E.limits p left s.past w) (omega arith) (omega (arith, t.5)) t.4 (run_up w t.0 p left s.past t.1 t.3)
  run_up (closing n l ∷ w) turns p left o q lt =
      by (ltb (length p.events) E.limits.slots) (λ turns' q' lt'. run_up w turns' (marked 0 l p) left o q' lt') (run-turn turns p left o (closing n l) w q lt)
    where
      by : (b : Bool)
          → ((turns' : ℕ) → Well E.limits N (marked 0 l p) w → 3 * left + weight w < turns' → Reaches left (suc (3 * left + weight w)) (run E turns' (marked 0 l p) left o w) (take_up E.limits (marked 0 l p) left o w))
          → Reaches left (3 * left + weight (closing n l ∷ w)) (run E turns p left o (closing n l ∷ w)) (pick b (on (marked 0 l p) left o w) (stop 9 n left))
          → Reaches left (suc (3 * left + weight (closing n l ∷ w))) (run E turns p left o (closing n l ∷ w)) (pick b (take_up E.limits (marked 0 l p) left o w) (stop 9 n left))
      by true ih t = reaches-from left left (suc (3 * left + weight w)) _ _ _ (take_up E.limits (marked 0 l p) left o w) (omega arith) (omega (arith, t.5)) t.4 (ih t.0 t.1 t.3)
      by false ih t = t

  -- some turns more
  run-again : (k left most : ℕ) (x : Report) (t : Turned) → Reaches left most x t → Reaches left most x (again E k t)
  run-again zero left most x t h = h
  run-again (suc k) left most x (on p zero o w) h = h
  run-again (suc k) left most x (on p (suc l) o []) h = h
  run-again (suc k) left most x (on p (suc l) o (e ∷ w)) h =
      run-again k left most x (turn E p (suc l) o e w) (reaches-from (suc l) left (3 * suc l + weight (e ∷ w)) most x _ (turn E p (suc l) o e w) h.2 (omega (arith, h.5)) h.4 (run-turn h.0 p (suc l) o e w h.1 h.3))
  run-again (suc k) left most x (stop a n l) h = h

  -- a visit, some turns more, and what is taken up after them
  run_on : (turns : ℕ) (p : Page) (left : ℕ) (o : Bool) (e : Entry) (w : List Entry) (k : ℕ) → Well E.limits N p (e ∷ w) → 3 * left + weight (e ∷ w) < turns → Reaches left (3 * left + weight (e ∷ w)) (run E turns p left o (e ∷ w)) (up_from E.limits (again E k (turn E p left o e w)))
  run_on turns p left o e w k q lt = go (again E k (turn E p left o e w)) (run-again k left _ _ (turn E p left o e w) (run-turn turns p left o e w q lt))
    where
      go : (t : Turned) → Reaches left (3 * left + weight (e ∷ w)) (run E turns p left o (e ∷ w)) t → Reaches left (3 * left + weight (e ∷ w)) (run E turns p left o (e ∷ w)) (up_from E.limits t)
      go (on p' left' o' w') h = reaches-from left' left (suc (3 * left' + weight w')) _ _ _ (take_up E.limits p' left' o' w') h.2 (omega (arith, h.5)) h.4 (run_up w' h.0 p' left' o' h.1 h.3)
      go (stop a n left') h = h

-- ---- the loop

module _ (T tx : List ℕ) (W limit N : ℕ) where
  abbrev E : List ℕ → List ℕ → Env
  E out ev = env_of T tx out ev W limit

  -- only the lengths of the buffers matter
  start-kept : (out ev w out' ev' w' : List ℕ) → length out' ≡ length out → length ev' ≡ length ev → length w' ≡ length w → Start T tx out ev w W N → Start T tx out' ev' w' W N
  start-kept out ev w out' ev' w' eo ee ew h =
      record {
        valid = h.valid;
        some = h.some;
        words = h.words;
        small = h.small;
        texts = h.texts;
        room = omega (arith, h.room);
        slots = omega (arith, h.slots);
        area = omega (arith, h.area);
        width = h.width;
      }

  -- out₀, ev₀, w₀ where the loop began; out, ev, w now; the node due and the state
  pub record Going (out₀ ev₀ w₀ out ev w : List ℕ) (h : Due) (s : State) : Type 0 where
    pub start : Start T tx out ev w W N
    pub outs : length out ≡ length out₀
    pub evs : length ev ≡ length ev₀
    pub works : length w ≡ length w₀
    pub within : Within s.page out ev
    pub well : Well (E out ev).limits N (page_of s.page out ev) (top h ∷ stack_of s.depth w)
    pub left : s.left ≤ limit
    pub turns : ℕ
    pub enough : 3 * s.left + weight (top h ∷ stack_of s.depth w) < turns
    pub reached : Reached (E out ev) (N - 1) (page_of s.page out ev) s.left (flag_of s.past) (top h ∷ stack_of s.depth w)
    pub said : run (E out ev) turns (page_of s.page out ev) s.left (flag_of s.past) (top h ∷ stack_of s.depth w) ≡ layout (E out₀ ev₀) (N - 1)

  pub going_start : (out ev w : List ℕ) → Start T tx out ev w W N
      → Going out ev w out ev w (due_of (N - 1) 0 0) (record { page = record { column = record { 0 = 0 }; used = 0; events = 0 }; left = limit; past = 0; depth = 0 })
  unfolding layout events_of
  going_start out ev w h =
      record {
        start = h;
        outs = refl;
        evs = refl;
        works = refl;
        within = record { bytes = omega arith; events = omega arith };
        well = record {
          column = omega arith;
          fits = omega arith;
          room = h.room;
          stack = (record { number = omega (arith, h.some); indent = omega (arith, h.some) }, tt);
        };
        left = omega arith;
        turns = 3 * limit + 2;
        enough = omega arith;
        reached = Reached.start;
        said = refl;
      }

module _ {T tx : List ℕ} {W limit N : ℕ} {out₀ ev₀ w₀ out ev w : List ℕ} {h : Due} {s : State}
    (g : Going T tx W limit N out₀ ev₀ w₀ out ev w h s) where
  -- the step function's report from the root, which the run from here gives
  abbrev whole : Report
  whole = layout (E T tx W limit N out₀ ev₀) (N - 1)

  abbrev here : Env
  here = E T tx W limit N out ev

  -- a node is due with no step left
  laid-due : s.left ≡ 0 → Laid T tx out₀ ev₀ W limit N (Err (record { why = NoSteps; place = h.node; left = 0 })) out ev
  unfolding run turn events_of
  laid-due e =
      let f : g.turns ≡ suc (g.turns - 1) = omega (arith, g.enough) in
      record { same = rw (f, e) at g.said; used = omega arith; events = omega arith; left = omega arith }

  pub ran-due : s.left ≡ 0 → RanTo T tx out₀ ev₀ W limit N (AtLimit s h) out ev w
  ran-due e =
      let t = taken_is s.page out ev g.within.bytes in
      record {
        laid = laid-due e;
        ends =
            record {
              reached = rw (← g.outs, ← g.evs) (subst (λ k. Reached here (N - 1) (page_of s.page out ev) k (flag_of s.past) (top h ∷ stack_of s.depth w)) e g.reached);
              node = omega (arith, g.well.stack.0.number);
              column = omega (arith, t, g.well.column, g.within.bytes, g.start.room);
              depth = omega (arith, g.well.stack.0.number, length-stack s.depth w, g.start.small);
              nodes = nodes_of N _ _ _ (stack_of s.depth w) g.well.stack.1;
            };
      }

  -- with a step left: the state that the turn starts from has one less
  module _ (some : s.left ≡ 0 → ⊥) where
    abbrev s₁ : State
    s₁ = record { page = s.page; left = s.left - 1; past = s.past; depth = s.depth }

    pub going_ready : Ready T tx out ev w W s₁ h
    going_ready =
        let t = taken_is s.page out ev g.within.bytes in
        record {
          N = N;
          start = g.start;
          within = g.within;
          column = rw t at g.well.column;
          stack = rw (t, length-events s.page.events ev) at g.well.stack;
        }

    module _ {r : Result Turn Stopped} {out' ev' w' : List ℕ} (p : TurnedUp T tx out ev w W s₁ h r out' ev' w') (eo : length out' ≡ length out) (ee : length ev' ≡ length ev) (ew : length w' ≡ length w) where
      -- where the turn leads, the run goes on
      reach : Reaches here N g.start.valid s.left (3 * s.left + weight (top h ∷ stack_of s.depth w)) whole (turned_of r out' ev' w')
      unfolding turn
      reach =
          let f : s.left ≡ suc (s.left - 1) = omega arith in
          let t : Reaches here N g.start.valid (suc (s.left - 1)) (3 * suc (s.left - 1) + weight (top h ∷ stack_of s.depth w)) (run here g.turns (page_of s.page out ev) (suc (s.left - 1)) (flag_of s.past) (top h ∷ stack_of s.depth w)) (turned_of r out' ev' w') =
          rw (p.turning limit).same (run_on here N g.start.valid g.turns (page_of s.page out ev) (suc (s.left - 1)) (flag_of s.past) (top h) (stack_of s.depth w) p.more g.well (omega (arith, g.enough))) in
          reaches-from here N g.start.valid (suc (s.left - 1)) s.left _ _ _ _ (turned_of r out' ev' w') (omega arith) (omega arith) (sym g.said ∙ ap (λ (k : ℕ). run here g.turns (page_of s.page out ev) k (flag_of s.past) (top h ∷ stack_of s.depth w)) f) t

      -- and the states that it comes through are the run's
      came : Comes here (N - 1) (turned_of r out' ev' w')
      unfolding turn
      came =
          let f : s.left ≡ suc (s.left - 1) = omega arith in
          let z = subst (λ k. Reached here (N - 1) (page_of s.page out ev) k (flag_of s.past) (top h ∷ stack_of s.depth w)) f g.reached in
          rw (p.turning limit).same (comes-on here (N - 1) p.more z)

      pub going_on : {c : Due} {a : State} → r ≡ Ok (Go a c) → Going T tx W limit N out₀ ev₀ w₀ out' ev' w' c a
      going_on {c} {a} e =
          let t = rw e at reach in
          let q = rw e at (p.turning limit) in
          record {
            start = start-kept T tx W limit N out ev w out' ev' w' eo ee ew g.start;
            outs = eo ∙ g.outs;
            evs = ee ∙ g.evs;
            works = ew ∙ g.works;
            within = q.within;
            well = rw (eo, ee) t.1;
            left = omega (arith, t.2, g.left);
            turns = t.0;
            enough = t.3;
            reached = rw (eo, ee) (rw e at came);
            said = rw (eo, ee) (sym t.4);
          }

      pub going_less : {c : Due} {a : State} → r ≡ Ok (Go a c) → 3 * a.left + weight (top c ∷ stack_of a.depth w') < 3 * s.left + weight (top h ∷ stack_of s.depth w)
      going_less {c} {a} e = let t = rw e at reach in t.5

      -- what is used goes into a word
      pub done-small : {a : State} → r ≡ Ok (Done a) → (a.page.used ≤ 65536) × (a.page.events ≤ 4096)
      done-small {a} e =
          let q = rw e at (p.turning limit) in
          (omega (arith, q.within.bytes, eo, g.start.room), omega (arith, q.within.events, ee, g.start.slots))

      laid_done : {a : State} → r ≡ Ok (Done a) → Laid T tx out₀ ev₀ W limit N (Ok (record { left = a.left; used = a.page.used; events = a.page.events })) out' ev'
      unfolding run
      laid_done {a} e =
          let t = rw e at reach in
          let q = rw e at (p.turning limit) in
          let z : stack_of a.depth w' ≡ [] = ap (λ (k : ℕ). stack_of k w') (p.empty a e) in
          let f : t.0 ≡ suc (t.0 - 1) = omega (arith, t.3) in
          record { same = sym (t.4 ∙ rw (z, f)); used = q.within.bytes; events = q.within.events; left = omega (arith, t.2, g.left) }

      pub ran-done : {a : State} → r ≡ Ok (Done a) → RanTo T tx out₀ ev₀ W limit N (Ended (Ok (record { left = a.left; used = a.page.used; events = a.page.events }))) out' ev' w'
      ran-done e = record { laid = laid_done e; ends = λ seven. absurd (omega arith) }

      laid_stop : {x : Stopped} → r ≡ Err x → Laid T tx out₀ ev₀ W limit N (Err x) out' ev'
      unfolding events_of
      laid_stop {x} e =
          let t = rw e at reach in
          record { same = sym t.1; used = omega arith; events = omega arith; left = omega (arith, t.0, g.left) }

      pub ran-stop : {x : Stopped} → r ≡ Err x → RanTo T tx out₀ ev₀ W limit N (Ended (Err x)) out' ev' w'
      ran-stop {x} e =
          let stops : Stops (E T tx W limit N out₀ ev₀) (N - 1) (number x.why) x.place.0 x.left = rw (← g.outs, ← g.evs) (rw e at came) in
          record { laid = laid_stop e; ends = λ seven. stops }
