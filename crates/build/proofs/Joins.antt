-- A list of nodes joined one after the other: how many nodes that adds, and the loop that does it.
--     joined-counts   as many as are no Nil, but one, and no byte
--     Along           a turn of the loop: what is left to join comes to the whole
--     along-start, along_went, along-next, along-end
--     join_all         what the loop leaves: join-on a turn of it, join-refused where there is none, join-whole all of it
--     Joining         the invariant of both loops
-- Assumes nothing.
use Prim.Native.Nat.{ℕ, ◌+◌, ◌-◌, ◌≤◌, ◌<◌}
use native.Mathlib.Omega.{arith}
use mathlib.Core.Path.{◌≡◌, refl, sym, ap, ap₂, ◌∙◌, subst}
use mathlib.Core.Bool.{Bool, true, false, ◌&&◌}
use mathlib.Core.List.{List, [], ◌∷◌}
use lib.ListN.{length}
use borrow.Author.Tests.{ltb-true, lt-ltb}
use Rattle.choice.specs.Pick.{pick}
use Rattle.table.specs.declared.NodeNo.{NodeNo}
use Rattle.choice.proofs.Tests.{and-true}
use Rattle.build.specs.declared.Counts.{Counts}
use Rattle.std.specs.Prelude.{Ok, Err}
use Rattle.build.specs.declared.Why.{Why}
use Rattle.build.specs.Draft.{Draft, Built, counted, older, add}
use Rattle.build.specs.Parts.{is_nil, append, joined}
use Rattle.build.specs.Solid.{solid}
use Rattle.build.specs.Outcome.{Made, Asked, Outcome, outcome, onward, answered, made}
use Rattle.build.specs.Constructors.{has, has_all, append_made}
use Rattle.build.proofs.Grow.{Whole, Grown, same, then, whole-grown, more-nodes, add-grown, append-grown, joined-grown}
use Rattle.build.proofs.Words.{old-word, new_word, append-present}
use Rattle.build.proofs.Choices.{append_left, append_right, append_both}
use Rattle.build.proofs.Stand.{Stands, stands-counted, Went, made_told, taken, Begun, step, finish}

-- all of a list are below N
abbrev pub Below : ℕ → List ℕ → Type 0
Below N [] = Unit {0}
Below N (n ∷ ns) = (n < N) × Below N ns

pub below_of : (c : Counts) (ns : List ℕ) → has_all c ns ≡ true → Below c.nodes ns
unfolding has_all
below_of c [] e = tt
below_of c (n ∷ ns) e = let p = and-true (has c n) (has_all c ns) e in (ltb-true n c.nodes p.0, below_of c ns p.1)

pub below_more : {N M : ℕ} (ns : List ℕ) → N ≤ M → Below N ns → Below M ns
below_more [] h b = tt
below_more (n ∷ ns) h b = (omega (arith, b.0), below_more ns h b.1)

-- old nodes stay what they are
solid-grown : {s s' : Draft} → Whole s → Grown s s' → (ns : List ℕ) → Below s.counts.nodes ns → solid s'.table ns ≡ solid s.table ns
unfolding solid
solid-grown w g [] b = refl
solid-grown w g (n ∷ ns) b = rw (old-word w g n 0 b.0 (omega arith), solid-grown w g ns b.1) refl

-- ---- how many nodes

-- no byte, and as many nodes as are no Nil, but one
abbrev pub Counted : Draft → ℕ → List ℕ → Built → Type 0
Counted s n ns b = (b.draft.counts.nodes ≡ s.counts.nodes + (solid s.table (n ∷ ns) - 1)) × (b.draft.counts.bytes ≡ s.counts.bytes)

pub joined-counts : (s : Draft) (n : ℕ) (ns : List ℕ) → Whole s → n < s.counts.nodes → Below s.counts.nodes ns → Counted s n ns (joined s n ns)
unfolding joined solid
joined-counts s n [] w h b = (one (is_nil s n), refl)
  where
    one : (q : Bool) → s.counts.nodes ≡ s.counts.nodes + (pick q 0 1 - 1)
    one true = omega arith
    one false = omega arith
joined-counts s n (m ∷ ns) w h b =
    let g = append-grown s n m in
    let ih = joined-counts (append s n m).draft (append s n m).node ns (whole-grown w g) (append-present s n m h b.0) (below_more ns (more-nodes g) b.1) in
    by ih (is_nil s n) (is_nil s m) refl refl
  where
    -- by what Append comes to
    over-next : (x : Built) → append s n m ≡ x → Counted (append s n m).draft (append s n m).node ns (joined (append s n m).draft (append s n m).node ns)
        → (Counted x.draft x.node ns (joined x.draft x.node ns) → Counted s n (m ∷ ns) (joined x.draft x.node ns))
        → Counted s n (m ∷ ns) (joined (append s n m).draft (append s n m).node ns)
    over-next x e ih f =
        subst (λ (y : Built). Counted s n (m ∷ ns) (joined y.draft y.node ns)) (sym e)
        (f (subst (λ (y : Built). Counted y.draft y.node ns (joined y.draft y.node ns)) e ih))

    by : Counted (append s n m).draft (append s n m).node ns (joined (append s n m).draft (append s n m).node ns) → (p q : Bool) → is_nil s n ≡ p → is_nil s m ≡ q
        → Counted s n (m ∷ ns) (joined (append s n m).draft (append s n m).node ns)
    by ih true q p₁ q₁ = over-next (older s m) (append_left s n m p₁) ih (λ i. rw p₁ i)
    by ih false true p₁ q₁ = over-next (older s n) (append_right s n m p₁ q₁) ih (λ i. let j = rw p₁ at i in rw (p₁, q₁) j)
    by ih false false p₁ q₁ =
        over-next (add s 1 n m 0) (append_both s n m p₁ q₁) ih
        (λ i.
        let j = rw (new_word w (1 ∷ n ∷ m ∷ 0 ∷ []) 0) at i in
        let e = solid-grown w (add-grown s 1 n m 0) ns b.1 in
        rw (p₁, q₁) (omega arith, j.1))

-- ---- the loop

-- what is left to join comes to the whole
pub record Along (c₀ : Counts) (table₀ text₀ : List ℕ) (whole : Draft → Built) (c : Counts) (n : ℕ) (rest : List ℕ) (table text : List ℕ) : Type 0 where
  pub stands : Stands table₀ text₀ (counted c table text) c table text
  pub grown : Grown (counted c₀ table₀ text₀) (counted c table text)
  pub operand : n < c.nodes
  pub ends : joined (counted c table text) n rest ≡ whole (counted c₀ table₀ text₀)

module _ {c₀ : Counts} {table₀ text₀ : List ℕ} {present amount right : Bool} {whole : Draft → Built} (begun : Begun c₀ table₀ text₀ present amount right whole) where
  pub along-start : (n : ℕ) (rest : List ℕ) → n < c₀.nodes → joined (counted c₀ table₀ text₀) n rest ≡ whole (counted c₀ table₀ text₀)
      → Along c₀ table₀ text₀ whole c₀ n rest table₀ text₀
  along-start n rest h e = record { stands = begun.stands; grown = same (counted c₀ table₀ text₀); operand = h; ends = e }

  module _ {c : Counts} {n m : ℕ} {rest table text : List ℕ} (along : Along c₀ table₀ text₀ whole c n (m ∷ rest) table text) (present-m : m < c₀.nodes) where
    abbrev s : Draft
    s = counted c table text

    before : c₀.nodes ≤ c.nodes
    unfolding counted
    before = more-nodes along.grown

    rest-is : joined (append s n m).draft (append s n m).node rest ≡ whole (counted c₀ table₀ text₀)
    unfolding joined
    rest-is = along.ends

    -- one more is joined
    pub along_went : {r : Made} {table' text' : List ℕ} → outcome r table' text' ≡ append_made c table text n m → Went table₀ text₀ (append s n m) r table' text'
    along_went o =
        let two : has c n && has c m ≡ true = let l = before in rw (lt-ltb n c.nodes along.operand, lt-ltb m c.nodes (omega arith)) refl in
        let after : Grown (append s n m).draft (whole (counted c₀ table₀ text₀)).draft =
        rw (← rest-is) (joined-grown (append s n m).draft (append s n m).node rest) in
        step begun along.stands (λ x. append x n m) along.grown (append-grown s n m) after two refl refl o

    pub along-next : {r : Made} {table' text' : List ℕ} → outcome r table' text' ≡ append_made c table text n m → {c' : Counts} {n' : NodeNo} → r ≡ Ok (c', n')
        → Along c₀ table₀ text₀ whole c' n'.0 rest table' text'
    unfolding counted
    along-next {table' = table'} {text' = text'} o {c'} {n'} e =
        let t = taken (along_went o) e in
        let is : counted c' table' text' ≡ (append s n m).draft = stands-counted t.0 in
        let l = before in
        let there : n'.0 < c'.nodes = rw (t.1, t.0.counts) (append-present s n m along.operand (omega arith)) in
        record {
          stands = subst (λ (x : Draft). Stands table₀ text₀ x c' table' text') (sym is) t.0;
          grown = subst (λ (x : Draft). Grown (counted c₀ table₀ text₀) x) (sym is) (then along.grown (append-grown s n m));
          operand = there;
          ends = ap₂ (λ (x : Draft) (k : ℕ). joined x k rest) is t.1 ∙ rest-is;
        }

  pub along-end : {c : Counts} {n : NodeNo} {table text : List ℕ} → Along c₀ table₀ text₀ whole c n.0 [] table text
      → outcome (Ok (c, n)) table text ≡ made c₀ table₀ text₀ present amount right whole
  unfolding counted joined
  along-end {table = table} {text = text} a =
      finish begun
      (record {
        answer = ap (λ (b : Built). Ok (b.draft.counts, record { 0 = b.node })) a.ends;
        stands = subst (λ (b : Built). Stands table₀ text₀ b.draft b.draft.counts table text) a.ends a.stands;
      })

-- what was made, joined to each of a list in turn; a refusal is handed on
unfoldable pub join_all : Made → List ℕ → List ℕ → List ℕ → Outcome
join_all m table text [] = outcome m table text
join_all m table text (k ∷ ks) = let o = onward m table text (λ c n. append_made c table text n k) in join_all o.made o.table o.text ks

-- a turn of the loop
pub join-on : (m : Made) (table text : List ℕ) {r : Made} {table' text' : List ℕ} (k : ℕ) (ks : List ℕ)
    → outcome r table' text' ≡ onward m table text (λ c n. append_made c table text n k) → join_all r table' text' ks ≡ join_all m table text (k ∷ ks)
unfolding join_all
join-on m table text k ks o = ap (λ (x : Outcome). join_all x.made x.table x.text ks) o

-- nothing is joined to a refusal
pub join-refused : {m : Made} {why : Why} (table text ks : List ℕ) → m ≡ Err why → join_all m table text ks ≡ outcome m table text
unfolding join_all
join-refused table text [] e = refl
join-refused {why = why} table text (k ∷ ks) e = rw e (join-refused {m = Err why} table text ks refl)

module _ {c₀ : Counts} {table₀ text₀ : List ℕ} {present amount right : Bool} {whole : Draft → Built} (begun : Begun c₀ table₀ text₀ present amount right whole) where
  join_along : (ks : List ℕ) {c : Counts} {n : NodeNo} {table text : List ℕ} → Below c₀.nodes ks → Along c₀ table₀ text₀ whole c n.0 ks table text
      → join_all (Ok (c, n)) table text ks ≡ made c₀ table₀ text₀ present amount right whole
  unfolding join_all
  join_along [] b a = along-end begun a
  join_along (k ∷ ks) {c} {n} {table} {text} b a =
      let x = append_made c table text n.0 k in
      let told = made_told c table text (has c n.0 && has c k) true true (λ s. append s n.0 k) in
      let went = along_went begun a b.0 {r = x.made} {table' = x.table} {text' = x.text} told in
      let next = along-next begun a b.0 {r = x.made} {table' = x.table} {text' = x.text} told went.answer in
      ap (λ (m : Made). join_all m x.table x.text ks) went.answer ∙ join_along ks b.1 next

-- at the head of either loop: what is left to join comes to the whole
pub record Joining (text : List ℕ) (whole : Outcome) (long : ℕ) (table : List ℕ) (made : Made) (left : List ℕ) : Type 0 where
  pub kept : length table ≡ long
  pub joins : join_all made table text left ≡ whole

-- the loop from its first answer
pub join-whole : (A : Asked) {c₀ : Counts} {table₀ text₀ : List ℕ} {present amount right : Bool} {whole : Draft → Built} (n : NodeNo) (ks : List ℕ)
    → ((why : Why) → A ≡ Err why → outcome (Err why) table₀ text₀ ≡ made c₀ table₀ text₀ present amount right whole)
    → (A ≡ Ok tt → Begun c₀ table₀ text₀ present amount right whole × Below c₀.nodes ks × Along c₀ table₀ text₀ whole c₀ n.0 ks table₀ text₀) → {m : Made}
    → m ≡ answered A (Ok (c₀, n)) → join_all m table₀ text₀ ks ≡ made c₀ table₀ text₀ present amount right whole
join-whole A {c₀} {table₀} {text₀} {present} {amount} {right} {whole} n ks refused granted e = ap (λ (m : Made). join_all m table₀ text₀ ks) e ∙ go A refl
  where
    go : (a : Asked) → A ≡ a → join_all (answered a (Ok (c₀, n))) table₀ text₀ ks ≡ made c₀ table₀ text₀ present amount right whole
    go (Ok u) q = let g = granted q in join_along g.0 ks g.1 g.2
    go (Err why) q = join-refused table₀ text₀ ks refl ∙ refused why q
