-- What the alternatives of a block make of a draft without a fault, and the promise of the whole.
--     alternative-makes, unions-makes, layouts-makes, block-makes, format_promise
-- Assumes nothing.
use Prim.Native.Nat.{ℕ, zero, suc, ◌≤◌, ◌<◌}
use native.Mathlib.Omega.{arith}
use mathlib.Core.Path.{◌≡◌, refl, sym, ap, ap₂, ◌∙◌}
use mathlib.Core.Bool.{Bool, true, false, ◌&&◌}
use mathlib.Core.List.{List, [], ◌∷◌, map}
use lib.ListN.{length, take, drop}
use lib.Dec.{leb}
use borrow.Author.Tests.{ltb-true, leb-true}
use Rattle.choice.specs.Pick.{pick}
use Rattle.table.specs.Document.{Doc, flat_alt, union}
use Rattle.choice.proofs.Tests.{and-true}
use Rattle.build.specs.declared.Counts.{Counts}
use Rattle.build.specs.declared.Why.TheVariants.{Sizes}
use Rattle.std.specs.Prelude.{Err}
use Rattle.build.specs.Draft.{Draft, Built, counted}
use Rattle.build.specs.Parts as parts
use Rattle.build.specs.Outcome.{outcome, made}
use Rattle.build.specs.Constructors.{has, has_all, nest_right}
use Rattle.build.specs.Documents.{append_doc}
use Rattle.build.specs.Promise.{doc_at, Promise}
use Rattle.build.proofs.Joins.{Below, below_of}
use Rattle.build.proofs.Clean.{Clean, doc_of}
use Rattle.build.proofs.Means.{Makes, there, still, after, meaning, older-makes, nil-makes, fail-makes, flat_alt-makes, union-makes, append-makes}
use Rattle.build.proofs.Compose.{docs_still}
use Rattle.build.proofs.Promises.{promise}
use Rattle.block.specs.declared.Block.{Block}
use Rattle.block.specs.declared.Shared.{Shared}
use Rattle.block.specs.Affixes.{bare, head, tail}
use Rattle.block.specs.Block.{core, wraps, alternative, unions, layouts, block_of, sizes_right, operands, format_made}
use Rattle.block.specs.Documents.{bare_doc, head_doc, tail_doc, core_doc, wraps_doc, alternative_doc, unions_doc, block_doc}
use Rattle.block.proofs.Layers.{below-take, below-drop}
use Rattle.block.proofs.Meaning.{Stand, stand_still, below_still, bare-is, map-take, map-drop, map-length, head-makes, tail-makes, core-makes, wraps-makes}

module _ (b : Block) (sh : Shared) (prefixes suffixes : List ℕ) (nests : List Bool) (p : b.amount.0 ≤ 1000) (w : b.way ≤ 1) where
  -- the alternative's document over the documents of a draft's nodes
  abbrev there-doc : Draft → ℕ → Doc
  there-doc s split = alternative_doc b.amount.0 b.way (doc_of s b.body.0) (map (doc_of s) prefixes) (map (doc_of s) suffixes) nests split

  -- Core with its wraps, and Tail
  abbrev rest_of : Draft → ℕ → Bool → Built
  rest_of t split q =
      let middle = core t b sh q (drop split suffixes) in
      let wrapped = wraps middle.draft b middle.node (drop split prefixes) (drop split nests) in
      tail wrapped.draft sh wrapped.node (take split suffixes)

  behind-makes : {t : Draft} → Clean t → Stand t sh → b.body.0 < t.counts.nodes → Below t.counts.nodes prefixes → Below t.counts.nodes suffixes
      → (split : ℕ) (q : Bool)
      → Makes t (rest_of t split q) (tail_doc (wraps_doc b.amount.0 b.way (core_doc b.amount.0 b.way (doc_of t b.body.0) q (map (doc_of t) (drop split suffixes))) (map (doc_of t) (drop split prefixes)) (drop split nests)) (map (doc_of t) (take split suffixes)))
  behind-makes {t} c h l k j split q =
      let middle = core-makes c sh h b p w q (drop split suffixes) l (below-drop _ split suffixes j) in
      let others = drop split prefixes in
      let wraps-is =
      ap₂ (λ (d : Doc) (ds : List Doc). wraps_doc b.amount.0 b.way d ds (drop split nests)) middle.unfolds
      (docs_still c middle others (below-drop _ split prefixes k)) in
      let wrapped =
      after middle
      (meaning wraps-is (wraps-makes b p w middle.clean _ others (drop split nests) middle.present (below_still middle others (below-drop _ split prefixes k)))) in
      let firsts = take split suffixes in
      let tail-is = ap₂ tail_doc wrapped.unfolds (docs_still c wrapped firsts (below-take _ split suffixes j)) in
      after wrapped
      (meaning tail-is (tail-makes wrapped.clean sh (stand_still c wrapped h) _ firsts wrapped.present (below_still wrapped firsts (below-take _ split suffixes j))))

  alternative-makes : {s : Draft} → Clean s → Stand s sh → b.body.0 < s.counts.nodes → Below s.counts.nodes prefixes → Below s.counts.nodes suffixes
      → (split : ℕ) → Makes s (alternative s b sh prefixes suffixes nests split) (there-doc s split)
  unfolding alternative alternative_doc
  alternative-makes {s} c h l k j split =
      let before = take split prefixes in
      let front = head-makes c sh h before (below-take _ split prefixes k) in
      let q = bare (head s sh before).draft before in
      let rest = behind-makes front.clean (stand_still c front h) (there front l) (below_still front prefixes k) (below_still front suffixes j) split q in
      let join = append-makes rest.clean _ _ (there rest front.present) rest.present in
      let docs : (ns : List ℕ) → Below s.counts.nodes ns → map (doc_of (head s sh before).draft) ns ≡ map (doc_of s) ns = λ ns x. docs_still c front ns x in
      let head-is = still front.clean rest _ front.present ∙ front.unfolds ∙ ap head_doc (map-take s split prefixes) in
      let nils =
      bare-is front.clean before (below_still front before (below-take _ split prefixes k))
      ∙ ap bare_doc (docs before (below-take _ split prefixes k) ∙ map-take s split prefixes) in
      let body_is = still c front b.body.0 l in
      let behind = docs (drop split suffixes) (below-drop _ split suffixes j) ∙ map-drop s split suffixes in
      let others = docs (drop split prefixes) (below-drop _ split prefixes k) ∙ map-drop s split prefixes in
      let firsts = docs (take split suffixes) (below-take _ split suffixes j) ∙ map-take s split suffixes in
      let t = (head s sh before).draft in
      let whole : append_doc (doc_of (rest_of t split q).draft (head s sh before).node) (doc_of (rest_of t split q).draft (rest_of t split q).node) ≡ there-doc s split =
      ap₂ append_doc head-is
      (rest.unfolds
      ∙ (λ i. tail_doc (wraps_doc b.amount.0 b.way (core_doc b.amount.0 b.way (body_is i) (nils i) (behind i)) (others i) (drop split nests)) (firsts i))) in
      after front (after rest (meaning whole join))

  unions-makes : {s : Draft} → Clean s → Stand s sh → b.body.0 < s.counts.nodes → Below s.counts.nodes prefixes → Below s.counts.nodes suffixes
      → (n split : ℕ) → n < s.counts.nodes
      → Makes s (unions s b sh prefixes suffixes nests n split) (unions_doc b.amount.0 b.way (doc_of s b.body.0) (map (doc_of s) prefixes) (map (doc_of s) suffixes) nests (doc_of s n) split)
  unfolding unions unions_doc
  unions-makes c h l k j n zero x = older-makes c n x
  unions-makes {s} c h l k j n (suc split) x =
      let other = alternative-makes c h l k j (suc split) in
      let joined = after other (meaning (ap₂ union (still c other n x) other.unfolds) (union-makes other.clean n _ (there other x) other.present)) in
      let rest =
      let more = alternative s b sh prefixes suffixes nests (suc split) in
      unions-makes {s = (parts.union more.draft n more.node).draft} joined.clean (stand_still c joined h) (there joined l) (below_still joined prefixes k) (below_still joined suffixes j) _ split joined.present in
      let body_is = still c joined b.body.0 l in
      let before = docs_still c joined prefixes k in
      let behind = docs_still c joined suffixes j in
      let d = joined.unfolds in
      after joined (meaning (λ i. unions_doc b.amount.0 b.way (body_is i) (before i) (behind i) nests (d i) split) rest)

module _ (b : Block) (prefixes suffixes : List ℕ) (nests : List Bool) (p : b.amount.0 ≤ 1000) (w : b.way ≤ 1) where
  -- the document of all layouts over the documents of a draft's nodes
  abbrev all-doc : Draft → ℕ → Doc
  all-doc s others =
      let body = doc_of s b.body.0 in
      let before = map (doc_of s) prefixes in
      let behind = map (doc_of s) suffixes in
      unions_doc b.amount.0 b.way body before behind nests (alternative_doc b.amount.0 b.way body before behind nests (suc others)) others

  -- the Nil, the Fail and the guard come first
  layouts-makes : {s : Draft} → Clean s → b.body.0 < s.counts.nodes → Below s.counts.nodes prefixes → Below s.counts.nodes suffixes
      → (others : ℕ) → Makes s (layouts s b prefixes suffixes nests others) (all-doc s others)
  unfolding layouts
  layouts-makes {s} c l k j others =
      let none = nil-makes c in
      let failing = after none (fail-makes none.clean) in
      let none_is = still none.clean (fail-makes none.clean) _ none.present ∙ none.unfolds in
      let none-there = there (fail-makes none.clean) none.present in
      let alt = flat_alt-makes failing.clean _ _ failing.present none-there in
      let guard = after failing (meaning (ap₂ flat_alt failing.unfolds none_is) alt) in
      let sh : Shared =
      record { none = record { 0 = (parts.nil s).node }; guard = record { 0 = (parts.flat_alt (parts.fail (parts.nil s).draft).draft (parts.fail (parts.nil s).draft).node (parts.nil s).node).node } } in
      let h : Stand (parts.flat_alt (parts.fail (parts.nil s).draft).draft (parts.fail (parts.nil s).draft).node (parts.nil s).node).draft sh =
      record { none = there alt none-there; guard = guard.present; none_is = still failing.clean alt _ none-there ∙ none_is; guard-is = guard.unfolds } in
      let first =
      alternative-makes b sh prefixes suffixes nests p w guard.clean h (there guard l) (below_still guard prefixes k) (below_still guard suffixes j) (suc others) in
      let all = after guard first in
      let rest =
      unions-makes b sh prefixes suffixes nests p w first.clean (stand_still guard.clean first h) (there all l) (below_still all prefixes k)
      (below_still all suffixes j) _ others first.present in
      let body_is = still c all b.body.0 l in
      let before = docs_still c all prefixes k in
      let behind = docs_still c all suffixes j in
      let body-g = still c guard b.body.0 l in
      let before-g = docs_still c guard prefixes k in
      let behind-g = docs_still c guard suffixes j in
      let d = first.unfolds ∙ (λ i. alternative_doc b.amount.0 b.way (body-g i) (before-g i) (behind-g i) nests (suc others)) in
      after all (meaning (λ i. unions_doc b.amount.0 b.way (body_is i) (before i) (behind i) nests (d i) others) rest)

-- the whole: none gives the body
pub block-makes : {s : Draft} → Clean s → (b : Block) (prefixes suffixes : List ℕ) (nests : List Bool) → b.amount.0 ≤ 1000 → b.way ≤ 1 → b.body.0 < s.counts.nodes
    → Below s.counts.nodes prefixes → Below s.counts.nodes suffixes
    → Makes s (block_of s b prefixes suffixes nests) (block_doc b.amount.0 b.way (doc_of s b.body.0) (map (doc_of s) prefixes) (map (doc_of s) suffixes) nests)
unfolding block_of block_doc
block-makes c b [] suffixes nests p w l k j = older-makes c b.body.0 l
block-makes {s} c b (x ∷ ps) suffixes nests p w l k j =
    meaning
    (ap
    (λ (n : ℕ). unions_doc b.amount.0 b.way (doc_of s b.body.0) (map (doc_of s) (x ∷ ps)) (map (doc_of s) suffixes) nests (alternative_doc b.amount.0 b.way (doc_of s b.body.0) (map (doc_of s) (x ∷ ps)) (map (doc_of s) suffixes) nests (suc n)) n)
    (sym (map-length s ps)))
    (layouts-makes b (x ∷ ps) suffixes nests p w c l k j (length ps))

-- what a block layout promises of a valid table: the document that document 01 describes
pub format_promise : (c : Counts) (table text : List ℕ) (b : Block) (prefixes suffixes : List ℕ) (nests : List Bool)
    → Promise c table text (format_made c table text b prefixes suffixes nests) (block_doc b.amount.0 b.way (doc_at c table text b.body.0) (map (doc_at c table text) prefixes) (map (doc_at c table text) suffixes) nests)
unfolding format_made counted
format_promise c table text b prefixes suffixes nests = by (sizes_right (length prefixes) (length suffixes) (length nests))
  where
    d : Doc
    d = block_doc b.amount.0 b.way (doc_at c table text b.body.0) (map (doc_at c table text) prefixes) (map (doc_at c table text) suffixes) nests

    by : (q : Bool)
        → Promise c table text (pick q (made c table text (operands c b prefixes suffixes) (nest_right b.amount.0 b.way) true (λ s. block_of s b prefixes suffixes nests)) (outcome (Err Sizes) table text)) d
    by true =
        promise c table text (operands c b prefixes suffixes) (nest_right b.amount.0 b.way) true (λ s. block_of s b prefixes suffixes nests) d
        (λ k o a r.
        let x = and-true (has c b.body.0) (has_all c prefixes && has_all c suffixes) o in
        let y = and-true (has_all c prefixes) (has_all c suffixes) x.1 in
        let z = and-true (leb b.amount.0 1000) (leb b.way 1) a in
        block-makes k b prefixes suffixes nests (leb-true _ _ z.0) (leb-true _ _ z.1) (ltb-true _ _ x.0) (below_of c prefixes y.0)
        (below_of c suffixes y.1))
    by false = λ c' n e v. let z : ◌≡◌ {A = ℕ} 0 1 = cc in absurd (omega arith)

-- affixes too many, or not as many of each
pub format_sizes : (c : Counts) (table text : List ℕ) (b : Block) (prefixes suffixes : List ℕ) (nests : List Bool)
    → sizes_right (length prefixes) (length suffixes) (length nests) ≡ false → outcome (Err Sizes) table text ≡ format_made c table text b prefixes suffixes nests
unfolding format_made
format_sizes c table text b prefixes suffixes nests e = rw e refl
