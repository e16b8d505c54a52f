-- What Text and the composed constructors make of a draft without a fault, part by part.
--     text-makes, space-makes, line-makes, line₀-makes, softline-makes, softline₀-makes
--     hang-makes, indent-makes, enclose-makes, joined-makes, concat-makes, intersperse-makes
-- Assumes nothing.
use Prim.Native.Nat.{ℕ, ◌+◌, ◌≤◌, ◌<◌}
use native.Mathlib.Omega.{arith}
use mathlib.Core.Path.{◌≡◌, refl, ap, ap₂, ◌∙◌}
use mathlib.Core.Bool.{Bool, true, false}
use mathlib.Core.List.{List, [], ◌∷◌, ◌++◌, map}
use lib.ListN.{length, take, drop, replicate, length-append}
use lib.Seq.{take-length, drop_at}
use lib.Dec.{eqb, leb}
use borrow.Author.Tests.{le-leb}
use Rattle.choice.specs.Pick.{pick}
use Rattle.table.specs.Kinds.{kinds, kind_at}
use Rattle.buffer.specs.Utf8.{every, ascii, no_feed}
use Rattle.table.specs.Fault.{columns_right, fault_of}
use Rattle.table.specs.Document.{Doc, doc, nil, flat_alt, hardline, text, align}
use Rattle.build.specs.Draft.{Draft, Built, add, write}
use Rattle.build.specs.Parts as parts
use Rattle.build.specs.Documents.{append_doc, group_doc, text_doc, space_doc, line_doc, line₀_doc, softline_doc, softline₀_doc, hang_doc, indent_doc, enclose_doc, joined_doc, concat_doc, separated_doc, intersperse_doc}
use Rattle.build.proofs.Grow.{same, then, whole-grown, more-nodes, add-grown, write-grown}
use Rattle.build.proofs.Clean.{Clean, doc_of, clean_old, clean-add, new-doc}
use Rattle.build.proofs.Joins.{Below, below_more}
use Rattle.build.proofs.Separated.{below-separated}
use Rattle.build.proofs.Indents.{blanks-right}
use Rattle.build.proofs.Means.{Makes, there, still, after, meaning, nil-makes, hardline-makes, flat_alt-makes, align-makes, group-makes, nest-makes, append-makes}

module _ {s : Draft} (c : Clean s) where
  abbrev N : ℕ
  N = s.counts.nodes

  -- ---- Text

  module _ (bytes : List ℕ) (columns : ℕ) (right : columns_right bytes columns ≡ true) where
    abbrev longer : Draft
    longer = write s bytes

    clean_longer : Clean longer
    clean_longer = record { whole = whole-grown c.whole (write-grown s bytes); faults = λ n h. clean_old c (write-grown s bytes) n h }

    own : take (length bytes) (drop s.counts.bytes (s.text ++ bytes)) ≡ bytes
    own = ap (take (length bytes)) (drop_at s.text bytes s.counts.bytes c.whole.bytes) ∙ take-length bytes

    letters-makes : Makes s (add longer 6 s.counts.bytes (length bytes) columns) (text bytes columns)
    unfolding fault_of kind_at kinds doc
    letters-makes =
        let inside : leb (s.counts.bytes + length bytes) (length (s.text ++ bytes)) ≡ true =
        le-leb (s.counts.bytes + length bytes) (length (s.text ++ bytes)) (simp length-append (let w = c.whole.bytes in omega arith)) in
        let f : fault_of longer.text N 6 s.counts.bytes (length bytes) columns ≡ 0 = rw (inside, own, right) refl in
        record {
          grown = then (write-grown s bytes) (add-grown longer 6 s.counts.bytes (length bytes) columns);
          clean = clean-add longer 6 s.counts.bytes (length bytes) columns clean_longer f;
          present = omega arith;
          unfolds = new-doc longer 6 s.counts.bytes (length bytes) columns clean_longer f ∙ ap (λ (l : List ℕ). text l columns) own;
        }

    pub text-makes : Makes s (parts.text s bytes columns) (text_doc bytes columns)
    unfolding parts.text text_doc
    text-makes = go (eqb (length bytes) 0)
      where
        go : (q : Bool) → Makes s (pick q (parts.nil s) (add longer 6 s.counts.bytes (length bytes) columns)) (pick q nil (text bytes columns))
        go true = nil-makes c
        go false = letters-makes

  pub space-makes : Makes s (parts.space s) space_doc
  unfolding columns_right ascii no_feed every
  space-makes = text-makes (32 ∷ []) 1 refl

  -- ---- lines

  -- a Hardline, one node more, and FlatAlt of the two
  either_makes : (flat : Draft → Built) (d : Doc) → ((t : Draft) → Clean t → Makes t (flat t) d)
      → Makes s (let b = parts.hardline s in let f = flat b.draft in parts.flat_alt f.draft b.node f.node) (flat_alt hardline d)
  either_makes flat d makes =
      let first = hardline-makes c in
      let second = makes (parts.hardline s).draft first.clean in
      let e = still first.clean second _ first.present ∙ first.unfolds in
      after first (after second (meaning (ap₂ flat_alt e second.unfolds) (flat_alt-makes second.clean _ _ (there second first.present) second.present)))

  pub line₀-makes : Makes s (parts.line₀ s) line₀_doc
  unfolding parts.line₀
  line₀-makes = either_makes parts.nil nil (λ t k. nil-makes k)

-- a group around what was made
pub grouped-makes : {s : Draft} {b : Built} {d : Doc} → Makes s b d → Makes s (parts.group b.draft b.node) (group_doc d)
grouped-makes m = after m (meaning (ap group_doc m.unfolds) (group-makes m.clean _ m.present))

module _ {s : Draft} (c : Clean s) where
  pub line-makes : Makes s (parts.line s) line_doc
  unfolding parts.line
  line-makes = either_makes c parts.space space_doc (λ t k. space-makes k)

  pub softline-makes : Makes s (parts.softline s) softline_doc
  unfolding parts.softline
  softline-makes = grouped-makes line-makes

  pub softline₀-makes : Makes s (parts.softline₀ s) softline₀_doc
  unfolding parts.softline₀
  softline₀-makes = grouped-makes (line₀-makes c)

  -- ---- hang and indent

  pub hang-makes : (n amount way : ℕ) → n < s.counts.nodes → amount ≤ 1000 → way ≤ 1 → Makes s (parts.hang s n amount way) (hang_doc (doc_of s n) amount way)
  unfolding parts.hang
  hang-makes n amount way h p q =
      let m = nest-makes c n h amount way p q in
      after m (meaning (ap align m.unfolds) (align-makes m.clean _ m.present))

pub indent-makes : {s : Draft} → Clean s → (n by : ℕ) → n < s.counts.nodes → by ≤ 1000 → Makes s (parts.indent s n by) (indent_doc (doc_of s n) by)
unfolding parts.indent
indent-makes c n by h p =
    let first = text-makes c (replicate by 32) by (blanks-right by) in
    let old = there first h in
    let second = append-makes first.clean _ n first.present old in
    let joined = second.unfolds ∙ ap₂ append_doc first.unfolds (still c first n h) in
    let third = hang-makes second.clean _ by 0 second.present p (omega arith) in
    after first (after second (meaning (ap (λ (d : Doc). hang_doc d by 0) joined) third))

-- ---- lists

-- documents of older nodes
pub docs_still : {s : Draft} {b : Built} {d : Doc} → Clean s → Makes s b d → (ns : List ℕ) → Below s.counts.nodes ns → map (doc_of b.draft) ns ≡ map (doc_of s) ns
docs_still c m [] b = refl
docs_still c m (n ∷ ns) b = ap₂ (λ (x : Doc) (xs : List Doc). x ∷ xs) (still c m n b.0) (docs_still c m ns b.1)

pub joined-makes : {s : Draft} → Clean s → (n : ℕ) (ns : List ℕ) → n < s.counts.nodes → Below s.counts.nodes ns
    → Makes s (parts.joined s n ns) (joined_doc (doc_of s n) (map (doc_of s) ns))
unfolding parts.joined joined_doc
joined-makes {s} c n [] h b = record { grown = same s; clean = c; present = h; unfolds = refl }
joined-makes {s} c n (m ∷ ns) h b =
    let first = append-makes c n m h b.0 in
    let rest = joined-makes {s = (parts.append s n m).draft} first.clean (parts.append s n m).node ns first.present (below_more ns (more-nodes first.grown) b.1) in
    after first (meaning (ap₂ joined_doc first.unfolds (docs_still c first ns b.1)) rest)

module _ {s : Draft} (c : Clean s) where
  pub concat-makes : (ns : List ℕ) → Below s.counts.nodes ns → Makes s (parts.concat s ns) (concat_doc (map (doc_of s) ns))
  unfolding parts.concat concat_doc
  concat-makes [] b = nil-makes c
  concat-makes (n ∷ ns) b = joined-makes c n ns b.0 b.1

  pub enclose-makes : (n before behind : ℕ) → Below s.counts.nodes (before ∷ n ∷ behind ∷ [])
      → Makes s (parts.enclose s n before behind) (enclose_doc (doc_of s n) (doc_of s before) (doc_of s behind))
  unfolding parts.enclose parts.joined joined_doc
  enclose-makes n before behind b = joined-makes c before (n ∷ behind ∷ []) b.0 b.1

  separated_docs : (n : ℕ) (ns : List ℕ) → map (doc_of s) (parts.separated n ns) ≡ separated_doc (doc_of s n) (map (doc_of s) ns)
  unfolding parts.separated separated_doc
  separated_docs n [] = refl
  separated_docs n (m ∷ ns) = ap (λ (xs : List Doc). doc_of s n ∷ doc_of s m ∷ xs) (separated_docs n ns)

  pub intersperse-makes : (ns : List ℕ) (n : ℕ) → n < s.counts.nodes → Below s.counts.nodes ns
      → Makes s (parts.intersperse s ns n) (intersperse_doc (map (doc_of s) ns) (doc_of s n))
  unfolding parts.intersperse intersperse_doc
  intersperse-makes [] n h b = nil-makes c
  intersperse-makes (m ∷ ns) n h b =
      meaning (ap (joined_doc (doc_of s m)) (separated_docs n ns)) (joined-makes c m (parts.separated n ns) b.0 (below-separated n ns h b.1))
