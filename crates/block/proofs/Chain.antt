-- How a run of parts goes on: from counts c over a table, part by part, until one is refused for want of nodes.
--     At             where the run stands: a draft, counts and a table
--     begin, ready   before the first part; what the next part asks
--     ran-made, ran-older   what a constructor promises, and a node given back, as a run of one part
--     go, go-made, at, stop   one part more; its answer taken apart; handed on
--     Reached, reached   where the code stands once a part is built
--     shares_later, two   what is there stays there
--     ran_append     Append as a run of one part
--     first_stops .. group_last   two parts and a group
-- Assumes nothing.
use Prim.Native.Nat.{ℕ, ◌/◌, ◌≤◌, ◌<◌}
use native.Mathlib.Omega.{arith}
use native.Mathlib.Decide.{dec_lt}
use mathlib.Core.Path.{◌≡◌, refl, sym, ap, ◌∙◌, subst}
use mathlib.Core.Bool.{Bool, true, false, true≢false, ◌&&◌}
use mathlib.Core.List.{List}
use lib.ListN.{length}
use borrow.Author.Tests.{eq-eqb, lt-ltb}
use Rattle.table.specs.declared.NodeNo.{NodeNo}
use Rattle.build.specs.declared.Counts.{Counts}
use Rattle.build.specs.declared.Why.{Why}
use Rattle.build.specs.declared.Why.TheVariants.{Nodes}
use Rattle.build.specs.Outcome.{Made}
use Rattle.std.specs.Prelude.{Ok, Err}
use Rattle.build.specs.Draft.{Draft, Built, counted, older}
use Rattle.build.specs.Parts.{append, group}
use Rattle.build.specs.Outcome.{fits, Outcome, outcome, made}
use Rattle.build.specs.Constructors.{has, has_all, append_made, group_made}
use Rattle.build.proofs.Grow.{Grown, same, then, more-nodes, more_bytes}
use Rattle.build.proofs.Room.{Fits, fits_of, of-fits, stretch, Room}
use Rattle.build.proofs.Stand.{Stands, same-words, stands-counted, start, Went, went-added, taken, never, done}
use Rattle.build.proofs.Joins.{Below, below_of}
use Rattle.build.proofs.Only.{Adds, adds_then, append-adds, group-adds, made-whole, made-short}
use Rattle.block.specs.declared.Shared.{Shared}
use Rattle.block.specs.Run.{Ready, Shares, Ran}
use Rattle.block.proofs.Heads.{of-below}

-- where a run that began with counts c over the table stands
pub record At (c : Counts) (table text : List ℕ) (s : Draft) (c₁ : Counts) (table₁ : List ℕ) : Type 0 where
  pub stands : Stands table text s c₁ table₁ text
  pub grown : Grown (counted c table text) s
  pub quiet : s.counts.bytes ≡ c.bytes
  pub room : Fits c.nodes s.counts.nodes 1024 (length table / 4)

pub begin : {c : Counts} {table text : List ℕ} → Ready c table text → At c table text (counted c table text) c table
unfolding counted
begin {c} {table} {text} r =
    record {
      stands = start c table text r.nodes r.bytes;
      grown = same (counted c table text);
      quiet = refl;
      room = record { grows = omega arith; limited = λ l. absurd (omega arith); inside = λ l. absurd (omega arith) };
    }

pub ready : {c : Counts} {table text : List ℕ} {s : Draft} {c₁ : Counts} {table₁ : List ℕ} → At c table text s c₁ table₁ → Ready c₁ table₁ text
ready {s = s} a =
    let i = a.stands.nodes-inside in
    record { nodes = rw (a.stands.counts, same-words a.stands) (omega arith); bytes = rw a.stands.counts a.stands.bytes_inside }

-- later counts are no fewer
pub later : {c : Counts} {table text : List ℕ} {s : Draft} {c₁ : Counts} {table₁ : List ℕ} → At c table text s c₁ table₁ → c.nodes ≤ c₁.nodes
unfolding counted
later a = rw a.stands.counts (more-nodes a.grown)

-- what is added from here on, seen from the start
pub at-adds : {c : Counts} {table text : List ℕ} {s : Draft} {c₁ : Counts} {table₁ : List ℕ} {b : Built} → At c table text s c₁ table₁ → Adds s b
    → Adds (counted c table text) b
unfolding counted
at-adds a d = record { grown = then a.grown d.grown; quiet = d.quiet ∙ a.quiet; present = d.present }

-- ---- room

either : (q : Bool) → q ≡ true → q ≡ false → ⊥
either q e f = true≢false (sym e ∙ f)

-- one stretch after another
fits-then : {a b c limit lent : ℕ} → Fits a b limit lent → Fits b c limit lent → Fits a c limit lent
fits-then {a} {b} {c} {limit} {lent} f g =
    let p = f.grows in
    let q = g.grows in
    record { grows = omega arith; limited = λ l. by-limit (dec_lt b c) l; inside = λ l. by-lent (dec_lt b c) l }
  where
    by-limit : Dec (b < c) → a < c → c ≤ limit
    by-limit (yes l) h = g.limited l
    by-limit (no l) h = let q = g.grows in let e : b ≡ c = omega arith in let k = f.limited (omega arith) in omega arith

    by-lent : Dec (b < c) → a < c → c ≤ lent
    by-lent (yes l) h = g.inside l
    by-lent (no l) h = let q = g.grows in let e : b ≡ c = omega arith in let k = f.inside (omega arith) in omega arith

-- no room for a part: no room for the whole
pub no_room : (c n m lent : ℕ) → c ≤ n → n ≤ m → fits c n 1024 lent ≡ false → fits c m 1024 lent ≡ false
no_room c n m lent a b e = by (fits c m 1024 lent) refl
  where
    by : (q : Bool) → fits c m 1024 lent ≡ q → fits c m 1024 lent ≡ false
    by true q = absurd (either (fits c n 1024 lent) (of-fits (stretch c n (fits_of c m 1024 lent (omega arith) q) (omega arith) a b)) e)
    by false q = q

-- ---- one part

module _ {c : Counts} {table text : List ℕ} (r : Ready c table text) where
  pub ran-made : (f : Draft → Built) → Adds (counted c table text) (f (counted c table text)) → {present amount : Bool} → present ≡ true → amount ≡ true
      → {m : Made} {table' : List ℕ} → outcome m table' text ≡ made c table text present amount true f → Ran c table text (f (counted c table text)) m table'
  ran-made f a {present} {amount} p q o =
      let quiet : (f (counted c table text)).draft.counts.bytes ≡ c.bytes = unfold counted in a.quiet in
      record {
        whole = λ e. o ∙ made-whole c table text present amount f r.nodes r.bytes p q quiet e;
        short = λ e. ap (λ (x : Outcome). x.made) (o ∙ sym (made-short c table text present amount f r.nodes r.bytes p q quiet e));
      }

  pub ran-older : (n : NodeNo) → Ran c table text (older (counted c table text) n.0) (Ok (c, n)) table
  unfolding counted
  ran-older n =
      record {
        whole = λ e. done {b = older (counted c table text) n.0} (record { answer = refl; stands = start c table text r.nodes r.bytes });
        short = λ e. absurd (either (fits c.nodes c.nodes 1024 (length table / 4)) (rw (eq-eqb c.nodes c.nodes refl) refl) e);
      }

-- ---- part by part

module _ {c : Counts} {table text : List ℕ} where
  -- one part more
  pub go : {s : Draft} {c₁ : Counts} {table₁ : List ℕ} → At c table text s c₁ table₁ → (f : Draft → Built) → Adds s (f s) → {m : Made} {table₂ : List ℕ}
      → Ran c₁ table₁ text (f (counted c₁ table₁ text)) m table₂ → Ran c table text (f s) m table₂
  go {s} {c₁} {table₁} a f d {m} {table₂} ran =
      let is = stands-counted a.stands in
      let ran' : Ran c₁ table₁ text (f s) m table₂ = subst (λ (x : Draft). Ran c₁ table₁ text (f x) m table₂) is ran in
      let l = later a in
      let e = a.stands.counts in
      let same = same-words a.stands in
      let grows = more-nodes d.grown in
      let n : c₁.nodes ≤ (f s).draft.counts.nodes = rw e grows in
      record {
        whole = λ q.
            let whole = fits_of c.nodes (f s).draft.counts.nodes 1024 (length table / 4) (omega arith) q in
            let part = stretch c₁.nodes (f s).draft.counts.nodes whole l n (omega arith) in
            let room : Room (length table) (length text) s.counts (f s).draft.counts =
            record { nodes = subst (λ (x : Counts). Fits x.nodes (f s).draft.counts.nodes 1024 (length table / 4)) e part; used = record { grows = more_bytes d.grown; limited = λ x. absurd (let y = d.quiet in omega arith); inside = λ x. absurd (let y = d.quiet in omega arith) } } in
            done (went-added a.stands (f s) d.grown room (ran'.whole (rw same (of-fits part))));
        short = λ q. by q (fits c₁.nodes (f s).draft.counts.nodes 1024 (length table₁ / 4)) refl ran';
      }
    where
      by : fits c.nodes (f s).draft.counts.nodes 1024 (length table / 4) ≡ false → (b : Bool)
          → fits c₁.nodes (f s).draft.counts.nodes 1024 (length table₁ / 4) ≡ b → Ran c₁ table₁ text (f s) m table₂ → m ≡ Err Nodes
      by q true e r =
          let n : s.counts.nodes ≤ (f s).draft.counts.nodes = more-nodes d.grown in
          let e' : fits s.counts.nodes (f s).draft.counts.nodes 1024 (length table / 4) ≡ true = rw (a.stands.counts, same-words a.stands) at e in
          absurd (either _ (of-fits (fits-then a.room (fits_of _ _ _ _ n e'))) q)
      by q false e r = r.short e

  module _ {b : Built} {m : Made} {table₁ : List ℕ} (r : Ready c table text) (d : Adds (counted c table text) b) (ran : Ran c table text b m table₁) where
    abbrev fit : Bool
    fit = fits c.nodes b.draft.counts.nodes 1024 (length table / 4)

    grows : c.nodes ≤ b.draft.counts.nodes
    unfolding counted
    grows = more-nodes d.grown

    quietly : b.draft.counts.bytes ≡ c.bytes
    unfolding counted
    quietly = d.quiet

    -- what stands where there was room
    gone : fit ≡ true → Went table text b m table₁ text
    unfolding counted
    gone e =
        let room : Room (length table) (length text) (counted c table text).counts b.draft.counts =
        record { nodes = fits_of _ _ _ _ grows e; used = record { grows = more_bytes d.grown; limited = λ x. absurd (let y = d.quiet in omega arith); inside = λ x. absurd (let y = d.quiet in omega arith) } } in
        went-added (start c table text r.nodes r.bytes) b d.grown room (ran.whole e)

    -- a node says that there was room
    pub had-room : {c₁ : Counts} {n₁ : NodeNo} → m ≡ Ok (c₁, n₁) → fit ≡ true
    had-room {c₁} {n₁} e = by fit refl
      where
        by : (q : Bool) → fit ≡ q → fit ≡ true
        by true q = q
        by false q = let s = ran.short q in let z : ◌≡◌ {A = ℕ} 0 1 = cc in absurd (omega arith)

    -- its answer taken apart
    pub at : {c₁ : Counts} {n₁ : NodeNo} → m ≡ Ok (c₁, n₁) → At c table text b.draft c₁ table₁ × (n₁.0 ≡ b.node)
    at e =
        let t = taken (gone (had-room e)) e in
        (record { stands = t.0; grown = d.grown; quiet = quietly; room = fits_of _ _ _ _ grows (had-room e) }, t.1)

    -- a refusal says that there was none
    pub no-fit : {why : Why} → m ≡ Err why → fit ≡ false
    no-fit {why} e = by fit refl
      where
        by : (q : Bool) → fit ≡ q → fit ≡ false
        by true q = absurd (never (gone q) e)
        by false q = q

    -- handed on: the whole has no room either
    pub stop : {why : Why} → m ≡ Err why → {b' : Built} → Adds b.draft b' → Ran c table text b' m table₁
    stop e {b'} d' =
        let none = no_room c.nodes b.draft.counts.nodes b'.draft.counts.nodes (length table / 4) grows (more-nodes d'.grown) (no-fit e) in
        record { whole = λ q. absurd (either _ q none); short = λ q. ran.short (no-fit e) }

-- where the code stands once b is built: its counts, the node that it was answered and the table
pub record Reached (c : Counts) (table text : List ℕ) (b : Built) : Type 0 where
  pub counts : Counts
  pub node : NodeNo
  pub left : List ℕ
  pub place : At c table text b.draft counts left
  pub is : node.0 ≡ b.node

abbrev pub reached : {c : Counts} {table text : List ℕ} {b : Built} {m : Made} {table₁ : List ℕ} → Ready c table text → Adds (counted c table text) b
    → Ran c table text b m table₁ → {c₁ : Counts} {n₁ : NodeNo} → m ≡ Ok (c₁, n₁) → Reached c table text b
reached {table₁ = table₁} r d ran {c₁} {n₁} e = let t = at r d ran e in record { counts = c₁; node = n₁; left = table₁; place = t.0; is = t.1 }

-- ---- a constructor as the next part

module _ {c : Counts} {table text : List ℕ} {s : Draft} {c₁ : Counts} {table₁ : List ℕ} (a : At c table text s c₁ table₁) where
  pub go-made : (f : Draft → Built) → Adds s (f s) → {present amount : Bool} → present ≡ true → amount ≡ true → {m : Made} {table₂ : List ℕ}
      → outcome m table₂ text ≡ made c₁ table₁ text present amount true f → Ran c table text (f s) m table₂
  go-made f d p q o =
      let d' : Adds (counted c₁ table₁ text) (f (counted c₁ table₁ text)) = subst (λ (x : Draft). Adds x (f x)) (sym (stands-counted a.stands)) d in
      go a f d (ran-made (ready a) f d' p q o)

  -- a node of the draft is a present operand
  pub operand : (n : ℕ) → n < s.counts.nodes → has c₁ n ≡ true
  operand n h = rw a.stands.counts (lt-ltb n s.counts.nodes h)

  pub counted-node : {n : ℕ} → n < s.counts.nodes → n < c₁.nodes
  counted-node h = rw a.stands.counts h

  pub counted-list : (ns : List ℕ) → Below s.counts.nodes ns → has_all c₁ ns ≡ true
  counted-list ns b = rw a.stands.counts (of-below s.counts ns b)

  pub shares_later : {sh : Shared} → Shares c sh → Shares c₁ sh
  shares_later k = let l = later a in record { none = omega (arith, k.none); guard = omega (arith, k.guard) }

  -- two operands that are there
  pub two : (n m : ℕ) → n < s.counts.nodes → m < s.counts.nodes → has c₁ n && has c₁ m ≡ true
  two n m h k = rw (operand n h, operand m k) refl

-- what is there at the start
pub start-node : {c : Counts} {table text : List ℕ} → Ready c table text → {n : ℕ} → n < c.nodes → n < (counted c table text).counts.nodes
unfolding counted
start-node r h = h

pub start-list : {c : Counts} {table text : List ℕ} → Ready c table text → (ns : List ℕ) → has_all c ns ≡ true → Below (counted c table text).counts.nodes ns
unfolding counted
start-list {c} r ns h = below_of c ns h

-- Append as a run of one part
pub ran_append : {c : Counts} {table text : List ℕ} → Ready c table text → (n m : ℕ) → n < c.nodes → m < c.nodes → {r : Made} {table' : List ℕ}
    → outcome r table' text ≡ append_made c table text n m → Ran c table text (append (counted c table text) n m) r table'
ran_append {c} {table} {text} k n m h j o =
    ran-made k (λ s. append s n m) (append-adds (counted c table text) n m (start-node k h) (start-node k j)) (rw (lt-ltb n c.nodes h, lt-ltb m c.nodes j) refl)
    refl o

-- ---- two parts and a group

module _ {c : Counts} {table text : List ℕ} (r : Ready c table text) {b₁ : Built} (d₁ : Adds (counted c table text) b₁) (f₂ : Draft → Built)
    (d₂ : Adds b₁.draft (f₂ b₁.draft)) where
  abbrev b₂ : Built
  b₂ = f₂ b₁.draft

  abbrev both : Built
  both = group b₂.draft b₂.node

  d₃ : Adds b₂.draft both
  d₃ = group-adds b₂.draft b₂.node d₂.present

  module _ {m₁ : Made} {table₁ : List ℕ} (ran₁ : Ran c table text b₁ m₁ table₁) where
    pub first_stops : {why : Why} → m₁ ≡ Err why → Ran c table text both m₁ table₁
    first_stops e = stop r d₁ ran₁ e (adds_then d₂ d₃)

    module _ {c₁ : Counts} {n₁ : NodeNo} (e₁ : m₁ ≡ Ok (c₁, n₁)) {m₂ : Made} {table₂ : List ℕ} (ran₂ : Ran c₁ table₁ text (f₂ (counted c₁ table₁ text)) m₂ table₂) where
      so_far : Ran c table text b₂ m₂ table₂
      so_far = go (at r d₁ ran₁ e₁).0 f₂ d₂ ran₂

      pub second_stops : {why : Why} → m₂ ≡ Err why → Ran c table text both m₂ table₂
      second_stops e = stop r (adds_then d₁ d₂) so_far e d₃

      pub group_last : {c₂ : Counts} {n₂ : NodeNo} → m₂ ≡ Ok (c₂, n₂) → {m₃ : Made} {table₃ : List ℕ} → outcome m₃ table₃ text ≡ group_made c₂ table₂ text n₂.0
          → Ran c table text both m₃ table₃
      group_last e o =
          let t = at r (adds_then d₁ d₂) so_far e in
          go-made t.0 (λ s. group s b₂.node) d₃ (operand t.0 b₂.node d₂.present) refl (rw t.1 at o)
