-- A visit and what is taken up after it, in one.
-- Assumes nothing.
use mathlib.Core.Path.{◌≡◌, refl, sym, ap, subst}
use Prim.Native.Nat.{ℕ, suc, ◌+◌, ◌*◌}
use native.Mathlib.Omega.{arith}
use Rattle.std.specs.Prelude.{Result, Ok}
use mathlib.Core.List.{List, ◌∷◌}
use lib.ListN.{length}
use Rattle.machine.specs.Turn.{Turned, turn}
use Rattle.machine.specs.Well.{Well, weight}
use Rattle.machine.proofs.Kept.{Next, turn-next, stacked-length}
use Rattle.waiting.specs.Stack.{flag_of, top, stack_of}
use Rattle.waiting.specs.declared.Due.{Due}
use Rattle.waiting.proofs.Laws.{length-stack}
use Rattle.page.specs.Reading.{page_of, Within}
use Rattle.page.proofs.Events.{length-events}
use Rattle.page.proofs.Pages.{taken_is}
use Rattle.lay.specs.Turning.{Waits}
use Rattle.lay.specs.declared.State.{State}
use Rattle.lay.specs.declared.Turn.{Turn}
use Rattle.lay.specs.declared.Turn.TheVariants.{Go, Done}
use Rattle.lay.specs.declared.Stopped.{Stopped}
use Rattle.render.specs.Visit.{Ready, Visited, env_of, visited, again}
use Rattle.render.specs.TakeUp.{Rises, take_up, up_from, TakenUp, TurnedUp}
use Rattle.render.proofs.Again.{again-next}
use Rattle.render.proofs.Rising.{go-is-not-done}

-- a page and what waits, by the code's counts
well_of : (T tx out ev w : List ℕ) (W limit : ℕ) (s : State) (h : Due) (q : Ready T tx out ev w W s h) → Well (env_of T tx out ev W limit).limits q.N (page_of s.page out ev) (top h ∷ stack_of s.depth w)
well_of T tx out ev w W limit s h q =
    let t = taken_is s.page out ev q.within.bytes in
    record {
      column = rw t q.column;
      fits = rw t q.within.bytes;
      room = q.start.room;
      stack = rw (t, length-events s.page.events ev) q.stack;
    }

module _ {T tx out ev w : List ℕ} {W : ℕ} {s : State} {h : Due} (q : Ready T tx out ev w W s h) where
  next : (limit more : ℕ) → Next (env_of T tx out ev W limit).limits q.N (suc s.left) (3 * suc s.left + weight (top h ∷ stack_of s.depth w)) (again (env_of T tx out ev W limit) more (visited T tx out ev w W limit s h))
  unfolding turn
  next limit more =
      let E = env_of T tx out ev W limit in
      again-next E q.N q.start.valid more (suc s.left) _ (visited T tx out ev w W limit s h) (turn-next E q.N q.start.valid (page_of s.page out ev) (suc s.left) (flag_of s.past) (top h) (stack_of s.depth w) (well_of T tx out ev w W limit s h q))

  module _ {r : Result Turn Stopped} {out' ev' w' : List ℕ} (p : Visited T tx out ev w W s h r out' ev' w') where
    pub turn_go : {c : Due} {a : State} → r ≡ Ok (Go a c) → TurnedUp T tx out ev w W s h (Ok (Go a c)) out' ev' w'
    unfolding take_up
    turn_go {c} {a} e =
        let p' : Visited T tx out ev w W s h (Ok (Go a c)) out' ev' w' = rw e at p in
        record { more = p'.more; turning = λ limit. let t = p'.turning limit in record { same = ap (up_from (env_of T tx out ev W limit).limits) t.same; within = t.within }; empty = λ b f. go-is-not-done c a b f }

    module _ {a : State} (e : r ≡ Ok (Done a)) (len : length ev' ≡ length ev) where
      done : Visited T tx out ev w W s h (Ok (Done a)) out' ev' w'
      done = rw e at p

      well : Well (env_of T tx out ev W 0).limits q.N (page_of a.page out' ev') (stack_of a.depth w')
      well = (subst (λ (t : Turned). Next (env_of T tx out ev W 0).limits q.N (suc s.left) (3 * suc s.left + weight (top h ∷ stack_of s.depth w)) t) (sym (done.turning 0).same) (next 0 done.more)).0

      in_a : Within a.page out' ev'
      in_a = (done.turning 0).within

      waits : Waits q.N (length out) a w'
      waits = rw (taken_is a.page out' ev' in_a.bytes, length-events a.page.events ev') at well.stack

      pub done_ready : length out' ≡ length out → length w' ≡ length w → Rises a ev' w'
      done_ready lo lw = (
        omega (arith, stacked-length q.N _ _ _ (stack_of a.depth w') waits, length-stack a.depth w', q.start.small),
        omega (arith, q.start.area),
        in_a.events,
        omega (arith, q.start.slots),
        omega (arith, in_a.bytes, lo, q.start.room),
      )

      pub turn-done : length out' ≡ length out → {r' : Result Turn Stopped} {ev'' : List ℕ} → TakenUp a ev' w' r' ev'' → TurnedUp T tx out ev w W s h r' out' ev'' w'
      turn-done lo u =
          record {
            more = done.more;
            turning = λ limit.
                let t = done.turning limit in
                rw (← t.same) (u.turning (env_of T tx out ev W limit).limits out' q.N (rw len refl) t.within (rw lo waits));
            empty = u.empty;
          }
