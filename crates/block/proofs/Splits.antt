-- An alternative, part by part, as the proof of the code asks for them: head, core, wraps, tail, join.
--     AtFront .. AtBack              where the code stands once Head, Core, the wraps and Tail are built
--     split_asks₁ .. split_last      what each part asks; refused, or built; the join
-- Assumes nothing.
use Prim.Native.Nat.{ℕ, ◌-◌, ◌<◌}
use native.Mathlib.Omega.{arith}
use mathlib.Core.Path.{◌≡◌, refl}
use mathlib.Core.Bool.{Bool, true}
use mathlib.Core.List.{List}
use lib.ListN.{length, take, drop, length-drop}
use lib.Seq.{take_all}
use Rattle.table.specs.declared.NodeNo.{NodeNo}
use Rattle.build.specs.declared.Counts.{Counts}
use Rattle.build.specs.declared.Why.{Why}
use Rattle.build.specs.Outcome.{Made}
use Rattle.std.specs.Prelude.{Ok, Err}
use Rattle.build.specs.Draft.{Draft, Built, counted}
use Rattle.build.specs.Parts.{append}
use Rattle.build.specs.Outcome.{outcome}
use Rattle.build.specs.Constructors.{has_all, append_made}
use Rattle.build.proofs.Only.{Adds, adds_then}
use Rattle.block.specs.declared.Block.{Block}
use Rattle.block.specs.declared.Shared.{Shared}
use Rattle.block.specs.Affixes.{bare, head, tail}
use Rattle.block.specs.Block.{core, wraps, alternative}
use Rattle.block.specs.Run.{Ready, Shares, Ran}
use Rattle.block.specs.Operands.{Bodied, AllPresent}
use Rattle.block.proofs.Heads.{of-below}
use Rattle.block.proofs.Layers.{below-take, below-drop, On, on_still, front-adds, middle-adds, wrapped-adds, back-adds, front-there, join-adds}
use Rattle.block.proofs.Chain.{Reached, reached, ready, go, go-made, stop, counted-node, counted-list, shares_later, two}
use Rattle.block.proofs.Steps.{bodied_later}
use Rattle.block.proofs.Loops.{on-present}

-- ---- so many affixes before

-- the rest of a list, as a part of a slice
abbrev pub rest : {A : Type 0} → ℕ → List A → List A
rest k xs = take (length xs - k) (drop k xs)

rest_all : {A : Type 0} (k : ℕ) (xs : List A) → rest k xs ≡ drop k xs
rest_all k xs = take_all (length xs - k) (drop k xs) (rw (length-drop k xs) (omega arith))

-- ---- part by part

module _ {c : Counts} {table text : List ℕ} (r : Ready c table text) {b : Block} {sh : Shared} {ps ss : List ℕ} (k : AllPresent c b sh ps ss) (qs : List Bool)
    (split : ℕ) where
  abbrev s₀ : Draft
  s₀ = counted c table text

  abbrev before : List ℕ
  before = take split ps

  abbrev front : Built
  front = head s₀ sh before

  abbrev middle : Built
  middle = core front.draft b sh (bare front.draft before) (drop split ss)

  abbrev wrapped : Built
  wrapped = wraps middle.draft b middle.node (drop split ps) (drop split qs)

  abbrev back : Built
  back = tail wrapped.draft sh wrapped.node (take split ss)

  abbrev whole : Built
  whole = alternative s₀ b sh ps ss qs split

  on : On s₀.counts.nodes b sh ps ss
  on = on-present r k

  pub d₁ : Adds s₀ front
  d₁ = front-adds b sh ps ss qs s₀ split on

  d₂ : Adds front.draft middle
  d₂ = middle-adds b sh ps ss qs s₀ split on

  d₃ : Adds middle.draft wrapped
  d₃ = wrapped-adds b sh ps ss qs s₀ split on

  d₄ : Adds wrapped.draft back
  d₄ = back-adds b sh ps ss qs s₀ split on

  d₅ : Adds back.draft whole
  d₅ = join-adds b sh ps ss qs s₀ split on

  pub to_middle : Adds s₀ middle
  to_middle = adds_then d₁ d₂

  pub to-wrapped : Adds s₀ wrapped
  to-wrapped = adds_then to_middle d₃

  pub to_back : Adds s₀ back
  to_back = adds_then to-wrapped d₄

  abbrev pub AtFront : Type 0
  AtFront = Reached c table text front

  abbrev pub AtMiddle : Type 0
  AtMiddle = Reached c table text middle

  abbrev pub AtWrapped : Type 0
  AtWrapped = Reached c table text wrapped

  abbrev pub AtBack : Type 0
  AtBack = Reached c table text back

  -- ---- Head

  pub split_asks₁ : Ready c table text × Shares c sh × (has_all c before ≡ true)
  split_asks₁ = (r, k.shares, unfold counted in of-below c before (below-take _ split ps on.before))

  module _ {m : Made} {table' : List ℕ} (ran : Ran c table text front m table') where
    pub split_stop₁ : {why : Why} → m ≡ Err why → Ran c table text whole m table'
    split_stop₁ x = stop r d₁ ran x (adds_then d₂ (adds_then d₃ (adds_then d₄ d₅)))

    abbrev pub split-front : {c' : Counts} {n : NodeNo} → m ≡ Ok (c', n) → AtFront
    split-front x = reached r d₁ ran x

  -- ---- Core

  module _ (f : AtFront) where
    pub split_asks₂ : Ready f.counts f.left text × Bodied f.counts b × Shares f.counts sh × (has_all f.counts (rest split ss) ≡ true)
    split_asks₂ = (
      ready f.place,
      bodied_later f.place k.bodied,
      shares_later f.place k.shares,
      rw (rest_all split ss) (counted-list f.place (drop split ss) (below-drop _ split ss (on_still d₁ on).behind)),
    )

    module _ {q : Bool} (asked : q ≡ bare (counted f.counts f.left text) before) {m : Made} {table' : List ℕ}
        (ran : Ran f.counts f.left text (core (counted f.counts f.left text) b sh q (rest split ss)) m table') where
      pub ran_middle : Ran c table text middle m table'
      ran_middle = go f.place (λ s. core s b sh (bare s before) (drop split ss)) d₂ (rw (asked, rest_all split ss) at ran)

      pub split_stop₂ : {why : Why} → m ≡ Err why → Ran c table text whole m table'
      split_stop₂ x = stop r to_middle ran_middle x (adds_then d₃ (adds_then d₄ d₅))

      abbrev pub split_middle : {c' : Counts} {n : NodeNo} → m ≡ Ok (c', n) → AtMiddle
      split_middle x = reached r to_middle ran_middle x

  -- ---- the wraps

  module _ (f : AtMiddle) where
    pub split_asks₃ : length qs ≡ length ps
        → Ready f.counts f.left text × Bodied f.counts b × (f.node.0 < f.counts.nodes) × (has_all f.counts (rest split ps) ≡ true) × (length (rest split qs) ≡ length (rest split ps))
    split_asks₃ e = (
      ready f.place,
      bodied_later f.place k.bodied,
      rw f.is (counted-node f.place d₂.present),
      rw (rest_all split ps) (counted-list f.place (drop split ps) (below-drop _ split ps (on_still to_middle on).before)),
      rw (rest_all split qs, rest_all split ps, length-drop split qs, length-drop split ps, e) refl,
    )

    module _ {m : Made} {table' : List ℕ}
        (ran : Ran f.counts f.left text (wraps (counted f.counts f.left text) b f.node.0 (rest split ps) (rest split qs)) m table') where
      pub ran-wrapped : Ran c table text wrapped m table'
      ran-wrapped =
          go f.place (λ s. wraps s b middle.node (drop split ps) (drop split qs)) d₃ (rw (f.is, rest_all split ps, rest_all split qs) at ran)

      pub split_stop₃ : {why : Why} → m ≡ Err why → Ran c table text whole m table'
      split_stop₃ x = stop r to-wrapped ran-wrapped x (adds_then d₄ d₅)

      abbrev pub split-wrapped : {c' : Counts} {n : NodeNo} → m ≡ Ok (c', n) → AtWrapped
      split-wrapped x = reached r to-wrapped ran-wrapped x

  -- ---- Tail

  module _ (f : AtWrapped) where
    pub split_asks₄ : Ready f.counts f.left text × Shares f.counts sh × (f.node.0 < f.counts.nodes) × (has_all f.counts (take split ss) ≡ true)
    split_asks₄ = (
      ready f.place,
      shares_later f.place k.shares,
      rw f.is (counted-node f.place d₃.present),
      counted-list f.place (take split ss) (below-take _ split ss (on_still to-wrapped on).behind),
    )

    module _ {m : Made} {table' : List ℕ}
        (ran : Ran f.counts f.left text (tail (counted f.counts f.left text) sh f.node.0 (take split ss)) m table') where
      pub ran-back : Ran c table text back m table'
      ran-back = go f.place (λ s. tail s sh wrapped.node (take split ss)) d₄ (rw f.is at ran)

      pub split_stop₄ : {why : Why} → m ≡ Err why → Ran c table text whole m table'
      split_stop₄ x = stop r to_back ran-back x d₅

      abbrev pub split-back : {c' : Counts} {n : NodeNo} → m ≡ Ok (c', n) → AtBack
      split-back x = reached r to_back ran-back x

  -- ---- Head joined to Tail

  pub split_last : (f : AtFront) (g : AtBack) {m : Made} {table' : List ℕ}
      → outcome m table' text ≡ append_made g.counts g.left text f.node.0 g.node.0 → Ran c table text whole m table'
  unfolding alternative
  split_last f g o =
      go-made g.place (λ s. append s front.node back.node) d₅
      (two g.place front.node back.node (front-there b sh ps ss qs s₀ split on) d₄.present) refl (rw (f.is, g.is) at o)
