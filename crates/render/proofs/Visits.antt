-- A visit of the node due: what each kind's function asks for, and that it leads where the step function leads.
-- Assumes nothing.
use mathlib.Core.Path.{◌≡◌, refl, sym}
use Prim.Native.Nat.{ℕ, ◌+◌, ◌*◌, ◌≤◌, ◌<◌}
use native.Mathlib.Omega.{arith}
use mathlib.Core.Bool.{Bool}
use Rattle.std.specs.Prelude.{Result, Ok}
use mathlib.Core.List.{List, ◌∷◌}
use lib.ListN.{get_or, length}
use Rattle.table.specs.Node.{Node, fail, way_of, node_of, node_at}
use Rattle.table.specs.Sound.{Sound}
use Rattle.table.specs.declared.Indent.{Indent}
use Rattle.rules.specs.Layout.{Limits, Page, nested}
use Rattle.machine.specs.Turn.{Turned, on, put, visit, give_up}
use Rattle.machine.proofs.Kept.{nodes_of, nested-le}
use Rattle.waiting.specs.Area.{area_words, due_of}
use Rattle.waiting.specs.Stack.{mode_of, flag_of, top, stack_of}
use Rattle.waiting.specs.declared.Due.{Due}
use Rattle.waiting.proofs.Laws.{flat_mode, length-stack}
use Rattle.fitting.specs.Fitting.{Fitting}
use Rattle.table.proofs.Nodes.{node-is, sound_longer}
use Rattle.page.specs.Reading.{page_of}
use Rattle.lay.specs.Turning.{Turning, Kept, Restoring, Wrote, Annotated}
use Rattle.lay.specs.declared.State.{State}
use Rattle.lay.specs.declared.Turn.{Turn}
use Rattle.lay.specs.declared.Stopped.{Stopped}
use Rattle.lay.specs.declared.Turn.TheVariants.{Go, Done}
use Rattle.render.specs.declared.Nested.{Nested}
use Rattle.render.specs.Visit.{Ready, Visited, Held, Came, env_of}

module _ {T tx out ev w : List ℕ} {W : ℕ} {s : State} {h : Due} (q : Ready T tx out ev w W s h) where
  abbrev n : ℕ
  n = h.node.0

  -- the node, if its kind is k
  abbrev of-kind : ℕ → Node
  of-kind k = node_of k (get_or T (n * 4 + 1) 0) (get_or T (n * 4 + 2) 0) (get_or T (n * 4 + 3) 0)

  node_in : n < q.N
  node_in = omega (arith, q.stack.0.number)

  sound : (k : ℕ) → get_or T (n * 4) 0 ≡ k → Sound (length tx) n (of-kind k)
  sound k e = rw (node-is T n k e) at (q.start.valid n node_in)

  pub area_enough : area_words ≤ length w
  area_enough = q.start.area

  pub used-small : s.page.used ≤ 65536
  used-small = omega (arith, q.within.bytes, q.start.room)

  pub events-small : s.page.events ≤ 4096
  events-small = omega (arith, q.within.events, q.start.slots)

  -- a push fits
  pub depth_small : s.depth < 1024
  depth_small = omega (arith, q.stack.0, length-stack s.depth w, q.start.small)

  column-small : s.page.column.0 ≤ 65536
  column-small = omega (arith, q.column, q.within.bytes, q.start.room)

  pub group-fits : get_or T (n * 4) 0 ≡ 2 → Fitting T w W (get_or T (n * 4 + 1) 0) s.depth s.page.column.0
  group-fits e =
      record {
        N = q.N;
        valid = λ k lt. sound_longer (length tx) 65536 k q.start.texts (node_at T k) (q.start.valid k lt);
        words = q.start.words;
        small = q.start.small;
        child = omega (arith, sound 2 e, node_in);
        nodes = nodes_of q.N _ _ _ (stack_of s.depth w) q.stack.1;
        deep = omega (arith, depth_small);
        area = q.start.area;
        width = omega (arith, q.start.width);
        column = column-small;
      }

  pub nest-fits : get_or T (n * 4) 0 ≡ 4 → h.indent.0 + get_or T (n * 4 + 2) 0 ≤ 2000000
  nest-fits e = let g = sound 4 e in omega (arith, g.1, q.stack.0.indent, q.start.small)

  pub text-fits : get_or T (n * 4) 0 ≡ 6
      → ((get_or T (n * 4 + 1) 0 + get_or T (n * 4 + 2) 0 ≤ length tx) × (length tx ≤ 65536) × (get_or T (n * 4 + 3) 0 ≤ 65536))
      × ((s.page.column.0 ≤ 65536) × (s.page.used ≤ length out) × (length out ≤ 65536))
  text-fits e =
      let g = sound 6 e in
      ((g.0, q.start.texts, omega (arith, g.0, g.1, q.start.texts)), (column-small, q.within.bytes, q.start.room))

  -- ---- where a visit leads

  -- by the step function, if the node's kind is k
  abbrev leads : ℕ → ℕ → Turned
  leads k limit =
      visit (env_of T tx out ev W limit) n (of-kind k) h.indent.0 (mode_of h.mode.0)
      (page_of s.page out ev) s.left (flag_of s.past) (stack_of s.depth w)

  -- by the kind
  visit_by : (k : ℕ) {r : Result Turn Stopped} {out' ev' w' : List ℕ} → get_or T (n * 4) 0 ≡ k
      → ((limit : ℕ) → Turning r out' ev' w' (leads k limit))
      → Visited T tx out ev w W s h r out' ev' w'
  visit_by k e t = record { more = 0; turning = λ limit. rw (node-is T n k e) (t limit) }

  pub visit-nil : get_or T (n * 4) 0 ≡ 0 → Visited T tx out ev w W s h (Ok (Done s)) out ev w
  visit-nil e = visit_by 0 e (λ limit. record { same = refl; within = q.within })

  -- a function that writes the work area alone: Append, Group, Union
  pub visit-kept : (k : ℕ) {r : Result Turn Stopped} {w' : List ℕ} {t : Page → Turned} → get_or T (n * 4) 0 ≡ k → Kept s r w' t
      → ((limit : ℕ) → t (page_of s.page out ev) ≡ leads k limit)
      → Visited T tx out ev w W s h r out ev w'
  visit-kept k e p is =
      visit_by k e (λ limit. rw (← (is limit)) (p.turning out ev q.within))

  -- a child is due, with an indentation
  visit-child : (k : ℕ) (c : Due) → get_or T (n * 4) 0 ≡ k
      → ((limit : ℕ) → on (page_of s.page out ev) s.left (flag_of s.past) (top c ∷ stack_of s.depth w) ≡ leads k limit)
      → Visited T tx out ev w W s h (Ok (Go s c)) out ev w
  visit-child k c e is = visit_by k e (λ limit. record { same = is limit; within = q.within })

  pub visit-broken : (c : Due) → get_or T (n * 4) 0 ≡ 3 → h.mode.0 ≡ 0 → c ≡ due_of (get_or T (n * 4 + 1) 0) h.indent.0 h.mode.0
      → Visited T tx out ev w W s h (Ok (Go s c)) out ev w
  visit-broken c e z ec = visit-child 3 c e (λ limit. rw (ec, z))

  pub visit-flat : (c : Due) → get_or T (n * 4) 0 ≡ 3 → (h.mode.0 ≡ 0 → ⊥) → c ≡ due_of (get_or T (n * 4 + 2) 0) h.indent.0 h.mode.0
      → Visited T tx out ev w W s h (Ok (Go s c)) out ev w
  visit-flat c e z ec = visit-child 3 c e (λ limit. rw (ec, flat_mode h.mode.0 z))

  -- a Nest, and those in a row below it
  module _ (i : Indent) (e : get_or T (n * 4) 0 ≡ 4)
      (ei : i.0 ≡ nested (way_of (get_or T (n * 4 + 3) 0)) (get_or T (n * 4 + 2) 0) h.indent.0) where
    abbrev below : Due
    below = record { node = record { 0 = get_or T (n * 4 + 1) 0 }; indent = i; mode = h.mode }

    pub nest-held : Held T below
    nest-held =
        let g = sound 4 e in
        record {
          known = record { N = q.N; size = length tx; valid = q.start.valid; words = q.start.words; node = omega (arith, g.0, node_in) };
          small = q.start.small;
          indent = omega (arith, g.0, g.1, q.stack.0.indent, nested-le (way_of (get_or T (n * 4 + 3) 0)) (get_or T (n * 4 + 2) 0) h.indent.0);
        }

    pub visit-nest : (r : Nested) → Came T s.left below r
        → Visited T tx out ev w W s h (Ok (Go (record { page = s.page; left = r.left; past = s.past; depth = s.depth }) r.due)) out ev w
    visit-nest r c =
        record {
          more = c.more;
          turning = λ limit.
              record {
                same = sym (rw (node-is T n 4 e, ← ei) (c.said (env_of T tx out ev W limit) (page_of s.page out ev) (flag_of s.past) (stack_of s.depth w) refl));
                within = q.within;
              };
        }

  pub visit-align : (i : Indent) → get_or T (n * 4) 0 ≡ 9 → i.0 ≡ s.page.column.0
      → Visited T tx out ev w W s h (Ok (Go s (record { node = record { 0 = get_or T (n * 4 + 1) 0 }; indent = i; mode = h.mode }))) out ev w
  visit-align i e ei = visit-child 9 _ e (λ limit. rw ei)

  -- a function that writes the output alone: Hardline, Text
  pub visit-wrote : (k : ℕ) {r : Result Turn Stopped} {out' : List ℕ} {grown : Page → Page} {past : Bool} → get_or T (n * 4) 0 ≡ k → Wrote s out r out' grown past
      → ((limit : ℕ)
      → put (env_of T tx out ev W limit).limits (grown (page_of s.page out ev)) s.left past (stack_of s.depth w) ≡ leads k limit)
      → Visited T tx out ev w W s h r out' ev w
  visit-wrote k e p is =
      visit_by k e (λ limit. rw (← (is limit)) (p.turning (env_of T tx out ev W limit).limits ev w refl q.within))

  pub visit-annotated : {r : Result Turn Stopped} {ev' w' : List ℕ} {t : Limits → Page → Turned} → get_or T (n * 4) 0 ≡ 7 → Annotated s ev r ev' w' t
      → ((limit : ℕ) → t (env_of T tx out ev W limit).limits (page_of s.page out ev) ≡ leads 7 limit)
      → Visited T tx out ev w W s h r out ev' w'
  visit-annotated e p is =
      visit_by 7 e (λ limit. rw (← (is limit)) (p.turning (env_of T tx out ev W limit).limits out refl q.within))

  pub visit-fail : {r : Result Turn Stopped} → node_at T n ≡ fail → Restoring s w r (λ p. give_up p s.left (stack_of s.depth w)) → Visited T tx out ev w W s h r out ev w
  visit-fail e p = record { more = 0; turning = λ limit. rw e (p.turning out ev q.N q.within q.stack.1) }
