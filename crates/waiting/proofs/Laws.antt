-- Laws of the work area read as what waits: areas with the same entries, what a push leaves, what a search finds.
-- Assumes nothing.
use mathlib.Core.Path.{◌≡◌, refl, sym, ap, ◌∙◌}
use Prim.Native.Nat.{ℕ, suc, zero, ◌+◌, ◌-◌, ◌*◌, ◌≤◌, ◌<◌}
use Rattle.std.specs.Prelude.{Option, Some, None}
use mathlib.Core.Bool.{Bool, true, false}
use mathlib.Core.List.{List, [], ◌∷◌}
use native.Mathlib.Omega.{arith}
use native.Mathlib.Numerals.{add-one, add-two, add-three}
use native.Mathlib.Nat.{add-zero}
use lib.ListN.{get_or, length, set, length-set}
use lib.Seq.{get_or-set_same, get_or-set_other, sets}
use lib.Dec.{eqb}
use borrow.Author.Tests.{eq-eqb, ne_eqb}
use Rattle.rules.specs.Layout.{Page, flat}
use Rattle.machine.specs.Waiting.{Saved, Entry, node, trial, closing, next_indent}
use Rattle.machine.specs.Fit.{reread}
use Rattle.machine.specs.Turn.{give_up}
use Rattle.machine.specs.Well.{Nodes}
use Rattle.waiting.specs.Area.{entry_words, saved_words, saved_from, fit_from, area_words, number_at, indent_at, mode_at, tag_at, tag_in, tag_word}
use Rattle.waiting.specs.Stack.{mode_of, saved_of, entry_of, saved_at, entry_at, top, stack_of, items_of, Same, FitPushed, tag_of, from, Nearest}
use Rattle.waiting.specs.declared.Tag.{Tag}
use Rattle.waiting.specs.declared.Tag.TheVariants.{Node, Trial, Closing}
use Rattle.waiting.specs.declared.Due.{Due}
use Rattle.waiting.specs.declared.Saved.{Saved as SavedWords}

-- ---- words

-- a mode that is not 0
pub flat_mode : (m : ℕ) → (m ≡ 0 → ⊥) → mode_of m ≡ flat
flat_mode zero h = absurd (h refl)
flat_mode (suc m) h = refl

-- a tag by its own word
tag_back : (t : Tag) → tag_in (tag_word t) ≡ t
tag_back Node = refl
tag_back Trial = refl
tag_back Closing = refl

-- tags with the same word are the same
tag_same : (t u : Tag) → tag_word t ≡ tag_word u → t ≡ u
tag_same t u e = sym (tag_back t) ∙ ap tag_in e ∙ tag_back u

-- ---- heights

pub length-stack : (d : ℕ) (w : List ℕ) → length (stack_of d w) ≡ d
length-stack zero w = refl
length-stack (suc d) w = ap suc (length-stack d w)

pub length-items : (m : ℕ) (k : ℕ) (w : List ℕ) → length (items_of m k w) ≡ k
length-items m zero w = refl
length-items m (suc k) w = ap suc (length-items m k w)

-- the top, where something waits
stack_top : (w : List ℕ) (d : ℕ) → 0 < d → stack_of d w ≡ entry_at w (d - 1) ∷ stack_of (d - 1) w
stack_top w d lt =
    let e : d ≡ suc (d - 1) = omega arith in
    ap (λ (k : ℕ). stack_of k w) e

-- and what it is by its tag
pub node-top : (w : List ℕ) (d : ℕ) → 0 < d → tag_in (tag_at w (d - 1)) ≡ Node
    → stack_of d w ≡ node (number_at w (d - 1)) (indent_at w (d - 1)) (mode_of (mode_at w (d - 1))) ∷ stack_of (d - 1) w
node-top w d lt t = stack_top w d lt ∙ rw t

pub trial-top : (w : List ℕ) (d : ℕ) → 0 < d → tag_in (tag_at w (d - 1)) ≡ Trial
    → stack_of d w ≡ trial (number_at w (d - 1)) (indent_at w (d - 1)) (mode_of (mode_at w (d - 1))) (saved_at w (d - 1)) ∷ stack_of (d - 1) w
trial-top w d lt t = stack_top w d lt ∙ rw t

pub closing-top : (w : List ℕ) (d : ℕ) → 0 < d → tag_in (tag_at w (d - 1)) ≡ Closing
    → stack_of d w ≡ closing (number_at w (d - 1)) (indent_at w (d - 1)) ∷ stack_of (d - 1) w
closing-top w d lt t = stack_top w d lt ∙ rw t

-- the same at a height
pub node_up : (w : List ℕ) (h : ℕ) → tag_in (tag_at w h) ≡ Node
    → stack_of (suc h) w ≡ node (number_at w h) (indent_at w h) (mode_of (mode_at w h)) ∷ stack_of h w
node_up w h t = rw t

pub trial_up : (w : List ℕ) (h : ℕ) → tag_in (tag_at w h) ≡ Trial
    → stack_of (suc h) w ≡ trial (number_at w h) (indent_at w h) (mode_of (mode_at w h)) (saved_at w h) ∷ stack_of h w
trial_up w h t = rw t

-- ---- areas with the same entries

pub same_refl : (d : ℕ) (w : List ℕ) → Same d w w
same_refl d w = record { entries = λ i lt. refl; saved = λ i lt. refl }

pub same_trans : (d : ℕ) (w w' w'' : List ℕ) → Same d w w' → Same d w' w'' → Same d w w''
same_trans d w w' w'' p q =
    record { entries = λ i lt. q.entries i lt ∙ p.entries i lt; saved = λ i lt. q.saved i lt ∙ p.saved i lt }

pub same_less : (d e : ℕ) (w w' : List ℕ) → d ≤ e → Same e w w' → Same d w w'
same_less d e w w' h p =
    record { entries = λ i lt. p.entries i (omega arith); saved = λ i lt. p.saved i (omega arith) }

entry-same : (d : ℕ) (w w' : List ℕ) → Same (suc d) w w' → entry_at w' d ≡ entry_at w d
entry-same d w w' p =
    let here = d * entry_words in
    let back = d * saved_words in
    let e : (k : ℕ) → saved_from + back + k ≡ saved_from + (back + k) = λ k. omega arith in
    let s : (k : ℕ) → k < saved_words → get_or w' (saved_from + back + k) 0 ≡ get_or w (saved_from + back + k) 0 =
    λ k lt. rw (e k) (p.saved (back + k) (omega arith)) in
    rw (
      p.entries (here + 3) (omega arith),
      p.entries here (omega arith),
      p.entries (here + 1) (omega arith),
      p.entries (here + 2) (omega arith),
      p.saved back (omega arith),
      s 1 (omega arith),
      s 2 (omega arith),
      s 3 (omega arith),
    )

pub stack_same : (d : ℕ) (w w' : List ℕ) → Same d w w' → stack_of d w' ≡ stack_of d w
stack_same zero w w' p = refl
stack_same (suc d) w w' p =
    let e : entry_at w' d ≡ entry_at w d = entry-same d w w' p in
    let r : stack_of d w' ≡ stack_of d w = stack_same d w w' (same_less d (suc d) w w' (omega arith) p) in
    cc

-- a store past all entries
same_set : (w : List ℕ) (j v : ℕ) → fit_from ≤ j → Same 1024 w (set w j v)
same_set w j v h =
    record {
      entries = λ i lt. get_or-set_other w j i v 0 (λ (e : i ≡ j). omega arith);
      saved = λ i lt. get_or-set_other w j (saved_from + i) v 0 (λ (e : saved_from + i ≡ j). omega arith);
    }

-- ---- runs of stores

-- every word outside of the run is as it was
sets-other : (vs l : List ℕ) (at i : ℕ) → (at ≤ i → at + length vs ≤ i) → get_or (sets l at vs) i 0 ≡ get_or l i 0
sets-other [] l at i h = refl
sets-other (v ∷ vs) l at i h =
    sets-other vs (set l at v) (suc at) i (λ le. omega (arith, h (omega arith)))
    ∙ get_or-set_other l at i v 0 (λ (e : i ≡ at). omega (arith, h (omega arith)))

-- every word of the run is stored
sets_at : (vs l : List ℕ) (at k : ℕ) → at + length vs ≤ length l → k < length vs → get_or (sets l at vs) (at + k) 0 ≡ get_or vs k 0
sets_at [] l at k h lt = absurd (omega arith)
sets_at (v ∷ vs) l at zero h lt =
    rw add-zero (sets-other vs (set l at v) (suc at) at (λ le. absurd (omega arith)) ∙ get_or-set_same l at v 0 (omega arith))
sets_at (v ∷ vs) l at (suc k) h lt =
    let e : at + suc k ≡ suc at + k = omega arith in
    rw e (sets_at vs (set l at v) (suc at) k (simp length-set (omega arith)) (omega arith))

pub stores4 : (w : List ℕ) (at a b c e : ℕ) → set (set (set (set w at a) (at + 1) b) (at + 2) c) (at + 3) e ≡ sets w at (a ∷ b ∷ c ∷ e ∷ [])
stores4 w at a b c e = rw (add-one, add-two, add-three)

-- ---- a push

module _ (w : List ℕ) (d : ℕ) (deep : d < 1024) (area : area_words ≤ length w) where
  -- four words at the place of the entry d
  stored : (vs : List ℕ) → length vs ≡ 4 → Same d w (sets w (d * entry_words) vs)
  stored vs e =
      record {
        entries = λ i lt. sets-other vs w (d * entry_words) i (λ le. absurd (omega arith));
        saved = λ i lt. sets-other vs w (d * entry_words) (saved_from + i) (λ le. omega arith);
      }

  -- the entry's words
  module _ (a b c t : ℕ) where
    abbrev words : List ℕ
    words = a ∷ b ∷ c ∷ t ∷ []

    -- what stands at the entry d then, over any words that trials saved
    entry-stored : (w' : List ℕ) → ((i : ℕ) → i < saved_from → get_or w' i 0 ≡ get_or (sets w (d * entry_words) words) i 0)
        → entry_at w' d ≡ entry_of (tag_in t) a b c (saved_at w' d)
    entry-stored w' h =
        let here = d * entry_words in
        let e : (k : ℕ) → k < 4 → get_or w' (here + k) 0 ≡ get_or words k 0 =
        λ k lt. h (here + k) (omega arith) ∙ sets_at words w here k (omega arith) lt in
        let z : get_or w' here 0 ≡ a = rw add-zero at (e 0 (omega arith)) in
        rw (e 3 (omega arith), z, e 1 (omega arith), e 2 (omega arith))

    pushed : (w' : List ℕ) → w' ≡ sets w (d * entry_words) words → stack_of (d + 1) w' ≡ entry_of (tag_in t) a b c (saved_at w' d) ∷ stack_of d w
    pushed w' q =
        let e : entry_at w' d ≡ entry_of (tag_in t) a b c (saved_at w' d) = entry-stored w' (λ i lt. ap (λ (l : List ℕ). get_or l i 0) q) in
        let r : stack_of d w' ≡ stack_of d w = stack_same d w w' (rw q (stored words refl)) in
        rw (add-one, e, r)

    -- the same with what a trial saved stored behind
    saved-stored : (v : SavedWords) (w₁ w₂ : List ℕ) → w₁ ≡ sets w (d * entry_words) words
        → w₂ ≡ sets w₁ (saved_from + d * saved_words) (v.page.column.0 ∷ v.page.used ∷ v.page.events ∷ v.past ∷ [])
        → length w₁ ≡ length w → stack_of (d + 1) w₂ ≡ entry_of (tag_in t) a b c (saved_of v) ∷ stack_of d w
    saved-stored v w₁ w₂ e₁ e₂ len =
        let at = saved_from + d * saved_words in
        let vs : List ℕ = v.page.column.0 ∷ v.page.used ∷ v.page.events ∷ v.past ∷ [] in
        let other : (i : ℕ) → i < at → get_or w₂ i 0 ≡ get_or w₁ i 0 =
        λ i lt. ap (λ (l : List ℕ). get_or l i 0) e₂ ∙ sets-other vs w₁ at i (λ le. absurd (omega arith)) in
        let back : (k : ℕ) → k < 4 → get_or w₂ (at + k) 0 ≡ get_or vs k 0 =
        λ k lt. ap (λ (l : List ℕ). get_or l (at + k) 0) e₂ ∙ sets_at vs w₁ at k (omega arith) lt in
        let first : get_or w₂ at 0 ≡ v.page.column.0 = rw add-zero at (back 0 (omega arith)) in
        let e : entry_at w₂ d ≡ entry_of (tag_in t) a b c (saved_at w₂ d) =
        entry-stored w₂ (λ i lt. other i (omega arith) ∙ ap (λ (l : List ℕ). get_or l i 0) e₁) in
        let f : saved_at w₂ d ≡ saved_of v = rw (first, back 1 (omega arith), back 2 (omega arith), back 3 (omega arith)) in
        let below : Same d w₁ w₂ = record { entries = λ i lt. other i (omega arith); saved = λ i lt. other (saved_from + i) (omega arith) } in
        let h : stack_of d w₂ ≡ stack_of d w = stack_same d w w₂ (same_trans d w w₁ w₂ (rw e₁ (stored words refl)) below) in
        rw (add-one, h, e, f)

  -- the three kinds of entry, with the word t of a tag
  pub pushed_node : (due : Due) (w' : List ℕ) {t : ℕ} → t ≡ tag_word Node
      → w' ≡ sets w (d * entry_words) (due.node.0 ∷ due.indent.0 ∷ due.mode.0 ∷ t ∷ []) → stack_of (d + 1) w' ≡ top due ∷ stack_of d w
  pushed_node due w' {t} et e = pushed due.node.0 due.indent.0 due.mode.0 t w' e ∙ rw et

  pub pushed_closing : (n l : ℕ) (w' : List ℕ) {t : ℕ} → t ≡ tag_word Closing
      → w' ≡ sets w (d * entry_words) (n ∷ l ∷ 0 ∷ t ∷ []) → stack_of (d + 1) w' ≡ closing n l ∷ stack_of d w
  pushed_closing n l w' {t} et e = pushed n l 0 t w' e ∙ rw et

  pub pushed_trial : (second : Due) (v : SavedWords) (w₁ w₂ : List ℕ) {t : ℕ} → t ≡ tag_word Trial
      → w₁ ≡ sets w (d * entry_words) (second.node.0 ∷ second.indent.0 ∷ second.mode.0 ∷ t ∷ [])
      → w₂ ≡ sets w₁ (saved_from + d * saved_words) (v.page.column.0 ∷ v.page.used ∷ v.page.events ∷ v.past ∷ []) → length w₁ ≡ length w
      → stack_of (d + 1) w₂ ≡ trial second.node.0 second.indent.0 (mode_of second.mode.0) (saved_of v) ∷ stack_of d w
  pushed_trial second v w₁ w₂ {t} et e₁ e₂ len =
      saved-stored second.node.0 second.indent.0 second.mode.0 t v w₁ w₂ e₁ e₂ len ∙ rw et

-- ---- the fit test's nodes

items-set : (m : ℕ) (k : ℕ) (w : List ℕ) (j v : ℕ) → fit_from + k ≤ j → items_of m k (set w j v) ≡ items_of m k w
items-set m zero w j v h = refl
items-set m (suc k) w j v h =
    let e : get_or (set w j v) (fit_from + k) 0 ≡ get_or w (fit_from + k) 0 =
    get_or-set_other w j (fit_from + k) v 0 (λ (q : fit_from + k ≡ j). omega arith) in
    let r : items_of m k (set w j v) ≡ items_of m k w = items-set m k w j v (omega arith) in
    cc

pub fit_pushed : (w : List ℕ) (k v : ℕ) → fit_from + k < length w → FitPushed w k v (set w (fit_from + k) v)
fit_pushed w k v h =
    record {
      same = same_set w (fit_from + k) v (omega arith);
      items = λ m.
          let e : get_or (set w (fit_from + k) v) (fit_from + k) 0 ≡ v = get_or-set_same w (fit_from + k) v 0 h in
          let r : items_of m k (set w (fit_from + k) v) ≡ items_of m k w = items-set m k w (fit_from + k) v (omega arith) in
          rw add-one (cc);
    }

-- ---- a search

-- an entry has the tag that it was made by
tag_kept : (t : Tag) (n i : ℕ) (m : ℕ) (s : Saved) → tag_of (entry_of t n i m s) ≡ tag_word t
tag_kept Node n i m s = refl
tag_kept Trial n i m s = refl
tag_kept Closing n i m s = refl

-- the test of the entry at height h
module _ (w : List ℕ) (h : ℕ) (tag : Tag) where
  abbrev same_word : Bool
  same_word = eqb (tag_of (entry_at w h)) (tag_word tag)

  met : tag_in (tag_at w h) ≡ tag → same_word ≡ true
  met e = eq-eqb _ _ (tag_kept (tag_in (tag_at w h)) _ _ _ (saved_at w h) ∙ ap tag_word e)

  not_met : (tag_in (tag_at w h) ≡ tag → ⊥) → same_word ≡ false
  not_met ne = ne_eqb _ _ (λ e. ne (tag_same _ _ (sym (tag_kept (tag_in (tag_at w h)) _ _ _ (saved_at w h)) ∙ e)))

from-none : (tag : ℕ) → from tag [] ≡ []
unfolding from
from-none tag = refl

from-here : (w : List ℕ) (h : ℕ) (tag : Tag) → tag_in (tag_at w h) ≡ tag → from (tag_word tag) (stack_of (suc h) w) ≡ stack_of (suc h) w
unfolding from
from-here w h tag e = rw (met w h tag e)

from-below : (w : List ℕ) (h : ℕ) (tag : Tag) → (tag_in (tag_at w h) ≡ tag → ⊥) → from (tag_word tag) (stack_of (suc h) w) ≡ from (tag_word tag) (stack_of h w)
unfolding from
from-below w h tag e = rw (not_met w h tag e)

-- a search from D entries, of which it has looked at those from d on
module _ (w : List ℕ) (D d : ℕ) (tag : Tag) (some : 0 < d) (left : from (tag_word tag) (stack_of D w) ≡ from (tag_word tag) (stack_of d w)) where
  at_top : d ≡ suc (d - 1)
  at_top = omega arith

  pub nearest_here : d ≤ D → tag_in (tag_at w (d - 1)) ≡ tag → Nearest w D tag (Some (d - 1))
  nearest_here le e =
      record {
        within = omega arith;
        found = left ∙ ap (λ (k : ℕ). from (tag_word tag) (stack_of k w)) at_top ∙ from-here w (d - 1) tag e;
        tagged = λ h same. let q : d - 1 ≡ h = cc in rw q at e;
      }

  pub nearest_below : (tag_in (tag_at w (d - 1)) ≡ tag → ⊥) → from (tag_word tag) (stack_of D w) ≡ from (tag_word tag) (stack_of (d - 1) w)
  nearest_below ne = left ∙ ap (λ (k : ℕ). from (tag_word tag) (stack_of k w)) at_top ∙ from-below w (d - 1) tag ne

pub nearest_none : (w : List ℕ) (D d : ℕ) (tag : Tag) → d ≤ 0 → from (tag_word tag) (stack_of D w) ≡ from (tag_word tag) (stack_of d w) → Nearest w D tag None
nearest_none w D d tag le left =
    let none : d ≡ 0 = omega arith in
    record { within = omega arith; found = left ∙ rw none (from-none (tag_word tag)); tagged = λ h same. absurd (cc) }

-- ---- what a search looks past makes no difference

pub from-reread : (w : List Entry) → reread (from 0 w) ≡ reread w
unfolding from
from-reread [] = refl
from-reread (node n i m ∷ w) = refl
from-reread (trial b i m s ∷ w) = from-reread w
from-reread (closing n l ∷ w) = from-reread w

pub from-nodes : (N : ℕ) (w : List Entry) → Nodes N w → Nodes N (from 0 w)
unfolding from
from-nodes N [] h = tt
from-nodes N (node n i m ∷ w) h = h
from-nodes N (trial b i m s ∷ w) h = from-nodes N w h
from-nodes N (closing n l ∷ w) h = from-nodes N w h

pub from-indent : (own : ℕ) (w : List Entry) → next_indent own (from 0 w) ≡ next_indent own w
unfolding from
from-indent own [] = refl
from-indent own (node n i m ∷ w) = refl
from-indent own (trial b i m s ∷ w) = from-indent own w
from-indent own (closing n l ∷ w) = from-indent own w

pub from-give_up : (p : Page) (left : ℕ) (w : List Entry) → give_up p left (from 1 w) ≡ give_up p left w
unfolding from
from-give_up p left [] = refl
from-give_up p left (node n i m ∷ w) = from-give_up p left w
from-give_up p left (trial b i m s ∷ w) = refl
from-give_up p left (closing n l ∷ w) = from-give_up p left w

-- ---- the next waiting node

module _ (w : List ℕ) (d own : ℕ) where
  pub indent_own : {r : Option ℕ} → Nearest w d Node r → r ≡ None → own ≡ next_indent own (stack_of d w)
  indent_own f e = sym (sym (from-indent own (stack_of d w)) ∙ ap (next_indent own) f.found ∙ rw e)

  pub indent-next : {r : Option ℕ} (h : ℕ) → Nearest w d Node r → r ≡ Some h → indent_at w h ≡ next_indent own (stack_of d w)
  indent-next h f e =
      let found : from 0 (stack_of d w) ≡ node (number_at w h) (indent_at w h) (mode_of (mode_at w h)) ∷ stack_of h w =
      f.found ∙ rw e (node_up w h (f.tagged h e)) in
      sym (sym (from-indent own (stack_of d w)) ∙ ap (next_indent own) found)
