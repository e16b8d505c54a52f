-- The two loops of a block: the wraps from the last of after to the first, and the unions from all affixes down to one.
--     ran_at               a run that has come to its end
--     Wrapping, wrap-start .. wrap-end      what is wrapped so far
--     Left, left-start .. left_end          what is left to unite comes to the whole
-- Assumes nothing.
use Prim.Native.Nat.{ℕ, zero, suc, ◌-◌, ◌≤◌, ◌<◌}
use native.Mathlib.Omega.{arith}
use native.Mathlib.Nat.{not-suc-le-zero, le_of_suc-le-suc}
use mathlib.Core.Path.{◌≡◌, refl, sym, ap₂, ◌∙◌, subst}
use mathlib.Core.Bool.{Bool, true, false, true≢false}
use mathlib.Core.List.{List, [], ◌∷◌}
use lib.ListN.{length, get_or, drop, drop_of_length-le}
use Rattle.table.specs.declared.NodeNo.{NodeNo}
use Rattle.build.specs.declared.Counts.{Counts}
use Rattle.build.specs.declared.Why.{Why}
use Rattle.build.specs.Outcome.{Made}
use Rattle.std.specs.Prelude.{Ok, Err}
use Rattle.build.specs.Draft.{Draft, Built, counted, older}
use Rattle.build.specs.Parts.{union}
use Rattle.build.specs.Outcome.{outcome}
use Rattle.build.specs.Constructors.{has_all, union_made}
use Rattle.build.proofs.Grow.{same}
use Rattle.build.proofs.Room.{of-fits}
use Rattle.build.proofs.Stand.{stands-counted, done}
use Rattle.build.proofs.Joins.{Below, below_of, below_more}
use Rattle.build.proofs.Only.{Adds, adds_then, union-adds}
use Rattle.block.specs.declared.Block.{Block}
use Rattle.block.specs.declared.Shared.{Shared}
use Rattle.block.specs.Block.{wrap, wraps, alternative, unions}
use Rattle.block.specs.Run.{Ready, Ran}
use Rattle.block.specs.Operands.{Bodied, AllPresent}
use Rattle.block.proofs.Heads.{of-below, stays-there}
use Rattle.block.proofs.Layers.{below-drop, wrap_adds, wraps-adds, On, on_still, alternative-adds, unions-adds}
use Rattle.block.proofs.Chain.{At, begin, ready, later, start-node, start-list, go, go-made, at, at-adds, stop, counted-node, shares_later, two}
use Rattle.block.proofs.Steps.{bodied_later}

-- a run that has come to its end
pub ran_at : {c : Counts} {table text : List ℕ} (b : Built) {c₁ : Counts} {n₁ : NodeNo} {table₁ : List ℕ} → At c table text b.draft c₁ table₁ → n₁.0 ≡ b.node
    → Ran c table text b (Ok (c₁, n₁)) table₁
ran_at b {c₁} {n₁} a e =
    let s = a.stands in
    record {
      whole =
          λ q. done {b = b} (record { answer = λ i. Ok ((s.counts i), (record { 0 = e i })); stands = record { counts = refl; words = s.words; bytes = s.bytes; whole = s.whole; nodes-inside = s.nodes-inside; bytes_inside = s.bytes_inside } });
      short = λ q. absurd (true≢false (sym (of-fits a.room) ∙ q));
    }

-- ---- wraps

below_at : {N : ℕ} (ns : List ℕ) (i : ℕ) → Below N ns → i < length ns → get_or ns i 0 < N
below_at [] i b h = absurd (not-suc-le-zero h)
below_at (n ∷ ns) zero b h = b.0
below_at (n ∷ ns) (suc i) b h = below_at ns i b.1 (le_of_suc-le-suc h)

wraps-next : (s : Draft) (b : Block) (n : ℕ) (ps : List ℕ) (qs : List Bool) (i : ℕ) → length qs ≡ length ps → i < length ps
    → wraps s b n (drop i ps) (drop i qs) ≡ (let inner = wraps s b n (drop (suc i) ps) (drop (suc i) qs) in wrap inner.draft b inner.node (get_or ps i 0) (get_or qs i false))
unfolding wraps
wraps-next s b n [] qs i e h = absurd (not-suc-le-zero h)
wraps-next s b n (p ∷ ps) [] i e h = absurd (omega arith)
wraps-next s b n (p ∷ ps) (q ∷ qs) zero e h = refl
wraps-next s b n (p ∷ ps) (q ∷ qs) (suc i) e h = wraps-next s b n ps qs i (omega arith) (le_of_suc-le-suc h)

-- nothing more is added
none_more : {s : Draft} {b : Built} → Adds s b → Adds b.draft b
none_more {b = b} a = record { grown = same b.draft; quiet = refl; present = a.present }

-- the wraps that are left
wraps-rest : (s : Draft) (b : Block) (n : ℕ) (ps : List ℕ) (qs : List Bool) (i : ℕ) → length qs ≡ length ps → n < s.counts.nodes → Below s.counts.nodes ps
    → Adds (wraps s b n (drop i ps) (drop i qs)).draft (wraps s b n ps qs)
unfolding wraps
wraps-rest s b n ps qs zero e h l = none_more (wraps-adds s b n ps qs h l)
wraps-rest s b n [] qs (suc i) e h l = none_more (wraps-adds s b n [] qs h l)
wraps-rest s b n (p ∷ ps) [] (suc i) e h l = absurd (omega arith)
wraps-rest s b n (p ∷ ps) (q ∷ qs) (suc i) e h l =
    let inner = wraps-adds s b n ps qs h l.1 in
    adds_then (wraps-rest s b n ps qs i (omega arith) h l.1)
    (wrap_adds (wraps s b n ps qs).draft b (wraps s b n ps qs).node p q inner.present (stays-there inner l.0))

-- the affixes from i on are wrapped
pub record Wrapping (c : Counts) (table text : List ℕ) (b : Block) (n : NodeNo) (ps : List ℕ) (qs : List Bool) (i : ℕ) (c₁ : Counts) (n₁ : NodeNo) (table₁ : List ℕ) : Type 0 where
  pub inside : i ≤ length ps
  pub place : At c table text (wraps (counted c table text) b n.0 (drop i ps) (drop i qs)).draft c₁ table₁
  pub node : n₁.0 ≡ (wraps (counted c table text) b n.0 (drop i ps) (drop i qs)).node

module _ {c : Counts} {table text : List ℕ} (r : Ready c table text) {b : Block} (k : Bodied c b) (n : NodeNo) (h : n.0 < c.nodes) (ps : List ℕ) (qs : List Bool)
    (l : has_all c ps ≡ true) (e : length qs ≡ length ps) where
  abbrev s₀ : Draft
  s₀ = counted c table text

  abbrev so_far : ℕ → Built
  so_far i = wraps s₀ b n.0 (drop i ps) (drop i qs)

  below : Below s₀.counts.nodes ps
  below = start-list r ps l

  far-adds : (i : ℕ) → Adds s₀ (so_far i)
  far-adds i = wraps-adds s₀ b n.0 (drop i ps) (drop i qs) (start-node r h) (below-drop _ i ps below)

  abbrev Here : ℕ → Counts → NodeNo → List ℕ → Type 0
  Here i c₁ n₁ table₁ = Wrapping c table text b n ps qs i c₁ n₁ table₁

  pub wrap-start : Here (length ps) c n table
  unfolding wraps
  wrap-start =
      let none : drop (length ps) ps ≡ [] = drop_of_length-le ps {i = length ps} (omega arith) in
      record { inside = omega arith; place = rw none (begin r); node = rw none refl }

  -- a turn goes from suc j to j, where i is suc j, by the prefix and the flag at j
  module _ {i : ℕ} (some : 0 < i) {c₁ : Counts} {n₁ : NodeNo} {table₁ : List ℕ} (here : Here i c₁ n₁ table₁) {p : ℕ} {q : Bool}
      (p-is : p ≡ get_or ps (i - 1) 0) (q-is : q ≡ get_or qs (i - 1) false) where
    abbrev j : ℕ
    j = i - 1

    one_less : j < length ps
    one_less = let inside = here.inside in omega arith

    standing : Here (suc j) c₁ n₁ table₁
    standing = subst (λ (x : ℕ). Here x c₁ n₁ table₁) (omega arith) here

    inner : Adds s₀ (so_far (suc j))
    inner = far-adds (suc j)

    prefix-there : get_or ps j 0 < (so_far (suc j)).draft.counts.nodes
    prefix-there = stays-there inner (below_at ps j below one_less)

    pub wrap_asks : Ready c₁ table₁ text × Bodied c₁ b × (n₁.0 < c₁.nodes) × (p < c₁.nodes)
    wrap_asks = (ready standing.place, bodied_later standing.place k, rw standing.node (counted-node standing.place inner.present), rw p-is (counted-node standing.place prefix-there))

    module _ {m₂ : Made} {table₂ : List ℕ} (ran : Ran c₁ table₁ text (wrap (counted c₁ table₁ text) b n₁.0 p q) m₂ table₂) where
      one_more : Ran c table text (so_far j) m₂ table₂
      one_more =
          rw (wraps-next s₀ b n.0 ps qs j e one_less)
          (go standing.place (λ s. wrap s b (so_far (suc j)).node (get_or ps j 0) (get_or qs j false))
          (wrap_adds (so_far (suc j)).draft b (so_far (suc j)).node (get_or ps j 0) (get_or qs j false) inner.present prefix-there) (rw (p-is, q-is, standing.node) at ran))

      pub wrap-stop : {why : Why} → m₂ ≡ Err why → Ran c table text (wraps s₀ b n.0 ps qs) m₂ table₂
      wrap-stop x = stop r (far-adds j) one_more x (wraps-rest s₀ b n.0 ps qs j e (start-node r h) below)

      pub wrap-next : {c₂ : Counts} {n₂ : NodeNo} → m₂ ≡ Ok (c₂, n₂) → Here (i - 1) c₂ n₂ table₂
      wrap-next x =
          let inside = one_less in
          let t = at r (far-adds j) one_more x in
          record { inside = omega arith; place = t.0; node = t.1 }

  pub wrap-end : {i : ℕ} → i ≤ 0 → {c₁ : Counts} {n₁ : NodeNo} {table₁ : List ℕ} → Here i c₁ n₁ table₁ → Ran c table text (wraps s₀ b n.0 ps qs) (Ok (c₁, n₁)) table₁
  wrap-end {i} h {c₁} {n₁} {table₁} here =
      let none : i ≡ 0 = omega arith in
      let last = subst (λ (x : ℕ). Here x c₁ n₁ table₁) none here in
      ran_at (wraps s₀ b n.0 ps qs) last.place last.node

-- ---- unions

pub on-present : {c : Counts} {table text : List ℕ} {b : Block} {sh : Shared} {ps ss : List ℕ} → Ready c table text → AllPresent c b sh ps ss
    → On (counted c table text).counts.nodes b sh ps ss
on-present {ps = ps} {ss = ss} r k =
    record { body = start-node r k.bodied.body; none = start-node r k.shares.none; guard = start-node r k.shares.guard; before = start-list r ps k.before; behind = start-list r ss k.behind }

pub present_later : {c : Counts} {table text : List ℕ} {s : Draft} {c₁ : Counts} {table₁ : List ℕ} {b : Block} {sh : Shared} {ps ss : List ℕ} → At c table text s c₁ table₁
    → AllPresent c b sh ps ss → AllPresent c₁ b sh ps ss
present_later {c} {c₁ = c₁} {ps = ps} {ss = ss} a k =
    let l = later a in
    record {
      bodied = bodied_later a k.bodied;
      shares = shares_later a k.shares;
      before = of-below c₁ ps (below_more ps l (below_of c ps k.before));
      behind = of-below c₁ ss (below_more ss l (below_of c ss k.behind));
    }

-- so many alternatives are left of all, and come to all of them
pub record Left (c : Counts) (table text : List ℕ) (b : Block) (sh : Shared) (ps ss : List ℕ) (qs : List Bool) (n : NodeNo) (all split : ℕ) (c₁ : Counts)
    (n₁ : NodeNo) (table₁ : List ℕ) : Type 0 where
  pub inside : split ≤ length ps
  pub place : At c table text (counted c₁ table₁ text) c₁ table₁
  pub there : n₁.0 < c₁.nodes
  pub ends : unions (counted c₁ table₁ text) b sh ps ss qs n₁.0 split ≡ unions (counted c table text) b sh ps ss qs n.0 all

module _ {c : Counts} {table text : List ℕ} (r : Ready c table text) {b : Block} {sh : Shared} {ps ss : List ℕ} (k : AllPresent c b sh ps ss) (qs : List Bool)
    (n : NodeNo) (all : ℕ) where
  abbrev first : Draft
  first = counted c table text

  abbrev whole : Built
  whole = unions first b sh ps ss qs n.0 all

  abbrev Still : ℕ → Counts → NodeNo → List ℕ → Type 0
  Still split c₁ n₁ table₁ = Left c table text b sh ps ss qs n all split c₁ n₁ table₁

  pub left-start : all ≤ length ps → n.0 < c.nodes → Still all c n table
  left-start i h = record { inside = i; place = begin r; there = h; ends = refl }

  -- a turn goes from suc less to less, where split is suc less
  module _ {split : ℕ} (some : 0 < split) {c₁ : Counts} {n₁ : NodeNo} {table₁ : List ℕ} (still : Still split c₁ n₁ table₁) where
    abbrev less : ℕ
    less = split - 1

    is-more : split ≡ suc less
    is-more = omega arith

    left : Still (suc less) c₁ n₁ table₁
    left = subst (λ (x : ℕ). Still x c₁ n₁ table₁) is-more still

    abbrev s₁ : Draft
    s₁ = counted c₁ table₁ text

    abbrev other : Built
    other = alternative s₁ b sh ps ss qs (suc less)

    abbrev joined : Built
    joined = union other.draft n₁.0 other.node

    pub left_asks : Ready c₁ table₁ text × AllPresent c₁ b sh ps ss × (split ≤ length ps)
    left_asks = (ready left.place, present_later left.place k, still.inside)

    on : On s₁.counts.nodes b sh ps ss
    on = on-present (ready left.place) (present_later left.place k)

    there₁ : n₁.0 < s₁.counts.nodes
    there₁ = start-node (ready left.place) left.there

    other-adds : Adds s₁ other
    other-adds = alternative-adds b sh ps ss qs s₁ (suc less) on

    joined-adds : Adds other.draft joined
    joined-adds = union-adds other.draft n₁.0 other.node

    rest-is : unions joined.draft b sh ps ss qs joined.node less ≡ whole
    unfolding unions
    rest-is = left.ends

    rest-adds : Adds joined.draft whole
    rest-adds =
        rw (← rest-is) (unions-adds b sh ps ss qs joined.draft joined.node less joined-adds.present (on_still (adds_then other-adds joined-adds) on))

    module _ {m₂ : Made} {table₂ : List ℕ} (ran : Ran c₁ table₁ text (alternative s₁ b sh ps ss qs split) m₂ table₂) where
      ran-other : Ran c table text other m₂ table₂
      ran-other =
          go left.place (λ s. alternative s b sh ps ss qs (suc less)) other-adds
          (subst (λ (x : ℕ). Ran c₁ table₁ text (alternative s₁ b sh ps ss qs x) m₂ table₂) is-more ran)

      pub left_stop₁ : {why : Why} → m₂ ≡ Err why → Ran c table text whole m₂ table₂
      left_stop₁ x = stop r (at-adds left.place other-adds) ran-other x (adds_then joined-adds rest-adds)

      module _ {c₂ : Counts} {n₂ : NodeNo} (e₂ : m₂ ≡ Ok (c₂, n₂)) {m₃ : Made} {table₃ : List ℕ}
          (o : outcome m₃ table₃ text ≡ union_made c₂ table₂ text n₁.0 n₂.0) where
        ran-joined : Ran c table text joined m₃ table₃
        ran-joined =
            let t = at r (at-adds left.place other-adds) ran-other e₂ in
            go-made t.0 (λ s. union s n₁.0 other.node) joined-adds
            (two t.0 n₁.0 other.node (stays-there other-adds there₁) other-adds.present) refl (rw t.1 at o)

        all-adds : Adds first joined
        all-adds = at-adds left.place (adds_then other-adds joined-adds)

        pub left_stop₂ : {why : Why} → m₃ ≡ Err why → Ran c table text whole m₃ table₃
        left_stop₂ x = stop r all-adds ran-joined x rest-adds

        pub left-next : {c₃ : Counts} {n₃ : NodeNo} → m₃ ≡ Ok (c₃, n₃) → Still (split - 1) c₃ n₃ table₃
        left-next {c₃} {n₃} x =
            let inside = still.inside in
            let t = at r all-adds ran-joined x in
            let is = stands-counted t.0.stands in
            record {
              inside = omega arith;
              place = subst (λ (s : Draft). At c table text s c₃ table₃) (sym is) t.0;
              there = rw t.1 (counted-node t.0 joined-adds.present);
              ends = ap₂ (λ (s : Draft) (x : ℕ). unions s b sh ps ss qs x less) is t.1 ∙ rest-is;
            }

  pub left_end : {split : ℕ} → split ≤ 0 → {c₁ : Counts} {n₁ : NodeNo} {table₁ : List ℕ} → Still split c₁ n₁ table₁ → Ran c table text whole (Ok (c₁, n₁)) table₁
  unfolding unions
  left_end {split} h {c₁} {n₁} {table₁} still =
      let none : split ≡ 0 = omega arith in
      let last = subst (λ (x : ℕ). Still x c₁ n₁ table₁) none still in
      rw (← last.ends) (ran_at (older (counted c₁ table₁ text) n₁.0) last.place refl)
