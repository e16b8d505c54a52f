-- What each layer of a block makes of a draft without a fault: one without a fault, and a node that unfolds to its document.
--     list-makes .. block-makes
-- Assumes nothing.
use Prim.Native.Nat.{ℕ, zero, suc, ◌≤◌, ◌<◌}
use mathlib.Core.Path.{◌≡◌, refl, sym, ap, ap₂, ◌∙◌}
use mathlib.Core.Bool.{Bool, true, false, ◌&&◌}
use mathlib.Core.List.{List, [], ◌∷◌, map}
use lib.ListN.{length, take, drop}
use lib.Dec.{ltb}
use Rattle.choice.specs.Pick.{pick}
use Rattle.table.specs.Document.{Doc, nil}
use Rattle.build.specs.Draft.{Draft, Built}
use Rattle.build.specs.Documents.{append_doc, nest_doc, concat_doc}
use Rattle.build.proofs.Grow.{more-nodes}
use Rattle.build.proofs.Joins.{Below, below_more}
use Rattle.build.proofs.Clean.{Clean, doc_of}
use Rattle.build.proofs.Says.{nil_is}
use Rattle.build.proofs.Means.{Makes, there, still, after, meaning, older-makes, nest-makes, append-makes}
use Rattle.build.proofs.Compose.{docs_still, grouped-makes, concat-makes}
use Rattle.block.specs.declared.Block.{Block}
use Rattle.block.specs.declared.Shared.{Shared}
use Rattle.block.specs.Affixes.{list, all_nil, bare, guarded, head, tail}
use Rattle.block.specs.Block.{nested, core, wrap, wraps}
use Rattle.block.specs.Documents.{all_nil_doc, bare_doc, guard_doc, guarded_doc, head_doc, tail_doc, core_doc, wrap_doc, wraps_doc}

-- ---- one layer

pub map-length : (s : Draft) (ns : List ℕ) → length (map (doc_of s) ns) ≡ length ns
map-length s [] = refl
map-length s (n ∷ ns) = ap suc (map-length s ns)

-- older nodes that were all Nil
all-nil-is : {s : Draft} → Clean s → (ns : List ℕ) → Below s.counts.nodes ns → all_nil s ns ≡ all_nil_doc (map (doc_of s) ns)
unfolding all_nil all_nil_doc
all-nil-is c [] b = refl
all-nil-is c (n ∷ ns) b = ap₂ ◌&&◌ (sym (nil_is c n b.0)) (all-nil-is c ns b.1)

pub bare-is : {s : Draft} → Clean s → (ns : List ℕ) → Below s.counts.nodes ns → bare s ns ≡ bare_doc (map (doc_of s) ns)
unfolding bare bare_doc
bare-is {s} c ns b = ap₂ (λ (n : ℕ) (q : Bool). ltb 1 n && q) (sym (map-length s ns)) (all-nil-is c ns b)

pub map-take : (s : Draft) (k : ℕ) (ns : List ℕ) → map (doc_of s) (take k ns) ≡ take k (map (doc_of s) ns)
map-take s zero ns = refl
map-take s (suc k) [] = refl
map-take s (suc k) (n ∷ ns) = ap (λ (l : List Doc). doc_of s n ∷ l) (map-take s k ns)

pub map-drop : (s : Draft) (k : ℕ) (ns : List ℕ) → map (doc_of s) (drop k ns) ≡ drop k (map (doc_of s) ns)
map-drop s zero ns = refl
map-drop s (suc k) [] = refl
map-drop s (suc k) (n ∷ ns) = map-drop s k ns

module _ {s : Draft} (c : Clean s) where
  abbrev N : ℕ
  N = s.counts.nodes

  list-makes : (none : ℕ) (ns : List ℕ) → none < N → doc_of s none ≡ nil → Below N ns → Makes s (list s none ns) (concat_doc (map (doc_of s) ns))
  unfolding list concat_doc
  list-makes none [] h e b = meaning e (older-makes c none h)
  list-makes none (n ∷ ns) h e b = concat-makes c (n ∷ ns) b

  guarded-makes : (sh : Shared) (n : ℕ) (q : Bool) → sh.guard.0 < N → doc_of s sh.guard.0 ≡ guard_doc → n < N → Makes s (guarded s sh n q) (guarded_doc (doc_of s n) q)
  unfolding guarded
  guarded-makes sh n true g e h = meaning (ap (append_doc (doc_of s n)) e) (append-makes c n sh.guard.0 h g)
  guarded-makes sh n false g e h = older-makes c n h

  module _ (b : Block) (p : b.amount.0 ≤ 1000) (w : b.way ≤ 1) where
    nested-makes : (n : ℕ) (q : Bool) → n < N → Makes s (nested s b n q) (pick q (nest_doc (doc_of s n) b.amount.0 b.way) (doc_of s n))
    unfolding nested
    nested-makes n true h = nest-makes c n h b.amount.0 b.way p w
    nested-makes n false h = older-makes c n h

-- ---- in order

-- the shared nodes stand for Nil and the guard
pub record Stand (s : Draft) (sh : Shared) : Type 0 where
  pub none : sh.none.0 < s.counts.nodes
  pub guard : sh.guard.0 < s.counts.nodes
  pub none_is : doc_of s sh.none.0 ≡ nil
  pub guard-is : doc_of s sh.guard.0 ≡ guard_doc

pub stand_still : {s : Draft} {x : Built} {d : Doc} {sh : Shared} → Clean s → Makes s x d → Stand s sh → Stand x.draft sh
stand_still c m h =
    record { none = there m h.none; guard = there m h.guard; none_is = still c m _ h.none ∙ h.none_is; guard-is = still c m _ h.guard ∙ h.guard-is }

pub below_still : {s : Draft} {x : Built} {d : Doc} → Makes s x d → (ns : List ℕ) → Below s.counts.nodes ns → Below x.draft.counts.nodes ns
below_still m ns b = below_more ns (more-nodes m.grown) b

module _ {s : Draft} (c : Clean s) (sh : Shared) (h : Stand s sh) where
  pub head-makes : (before : List ℕ) → Below s.counts.nodes before → Makes s (head s sh before) (head_doc (map (doc_of s) before))
  unfolding head head_doc
  head-makes before b =
      let first = list-makes c sh.none.0 before h.none h.none_is b in
      let k = stand_still c first h in
      let second = guarded-makes first.clean sh _ (ltb 1 (length before)) k.guard k.guard-is first.present in
      let e = ap₂ guarded_doc first.unfolds (ap (ltb 1) (sym (map-length s before))) in
      grouped-makes (after first (meaning e second))

  pub tail-makes : (n : ℕ) (before : List ℕ) → n < s.counts.nodes → Below s.counts.nodes before
      → Makes s (tail s sh n before) (tail_doc (doc_of s n) (map (doc_of s) before))
  unfolding tail tail_doc
  tail-makes n before l b =
      let first = list-makes c sh.none.0 before h.none h.none_is b in
      let second = append-makes first.clean n _ (there first l) first.present in
      grouped-makes (after first (meaning (ap₂ append_doc (still c first n l) first.unfolds) second))

  module _ (b : Block) (p : b.amount.0 ≤ 1000) (w : b.way ≤ 1) where
    pub core-makes : (q : Bool) (behind : List ℕ) → b.body.0 < s.counts.nodes → Below s.counts.nodes behind
        → Makes s (core s b sh q behind) (core_doc b.amount.0 b.way (doc_of s b.body.0) q (map (doc_of s) behind))
    unfolding core core_doc
    core-makes q behind l k =
        let first = guarded-makes c sh b.body.0 q h.guard h.guard-is l in
        let second =
        after first (meaning (ap (λ (d : Doc). nest_doc d b.amount.0 b.way) first.unfolds) (nested-makes first.clean b p w _ true first.present)) in
        let t = stand_still c second h in
        let third = list-makes second.clean sh.none.0 behind t.none t.none_is (below_still second behind k) in
        let e = ap₂ append_doc (still second.clean third _ second.present ∙ second.unfolds) (third.unfolds ∙ ap concat_doc (docs_still c second behind k)) in
        after second (after third (meaning e (append-makes third.clean _ _ (there third second.present) third.present)))

module _ (b : Block) (p : b.amount.0 ≤ 1000) (w : b.way ≤ 1) where
  wrap-makes : {s : Draft} → Clean s → (n prefix : ℕ) (q : Bool) → n < s.counts.nodes → prefix < s.counts.nodes
      → Makes s (wrap s b n prefix q) (wrap_doc b.amount.0 b.way (doc_of s n) (doc_of s prefix) q)
  unfolding wrap wrap_doc
  wrap-makes {s} c n prefix q l k =
      let first = append-makes c prefix n k l in
      let second = nested-makes first.clean b p w _ q first.present in
      grouped-makes (after first (meaning (ap (λ (d : Doc). pick q (nest_doc d b.amount.0 b.way) d) first.unfolds) second))

  pub wraps-makes : {s : Draft} → Clean s → (n : ℕ) (ps : List ℕ) (qs : List Bool) → n < s.counts.nodes → Below s.counts.nodes ps
      → Makes s (wraps s b n ps qs) (wraps_doc b.amount.0 b.way (doc_of s n) (map (doc_of s) ps) qs)
  unfolding wraps wraps_doc
  wraps-makes c n [] qs l k = older-makes c n l
  wraps-makes c n (x ∷ ps) [] l k = older-makes c n l
  wraps-makes c n (x ∷ ps) (q ∷ qs) l k =
      let inner = wraps-makes c n ps qs l k.1 in
      let e = ap₂ (λ (d f : Doc). wrap_doc b.amount.0 b.way d f q) inner.unfolds (still c inner x k.0) in
      after inner (meaning e (wrap-makes inner.clean _ x q inner.present (there inner k.0)))
