-- What each constructor promises of a valid table (specs/Promise.antt): valid to valid, and what the new node unfolds to.
--     promise        from what the parts make to what the constructor promises
--     nil_promise .. intersperse_promise     of each
--     lent           node n of a valid table is lent with the table up to n, and accepted
-- Assumes nothing.
use Prim.Native.Nat.{ℕ, ◌≤◌, ◌<◌}
use native.Mathlib.Omega.{arith}
use mathlib.Core.Path.{◌≡◌, refl, sym, ap, ◌∙◌, subst}
use mathlib.Core.Bool.{Bool, true, ◌&&◌}
use mathlib.Core.List.{List, [], ◌∷◌, map}
use lib.ListN.{length}
use lib.Dec.{leb}
use borrow.Author.Tests.{ltb-true, leb-true}
use Rattle.table.specs.Fault.{Fault, first_fault, none, columns_right}
use Rattle.table.specs.Document.{Doc, nil, flat_alt, hardline, annotated, union, align, fail}
use Rattle.table.specs.declared.NodeNo.{NodeNo}
use Rattle.choice.proofs.Tests.{and-true}
use Rattle.table.proofs.Accept.{clean_of}
use Rattle.build.specs.declared.Counts.{Counts}
use Rattle.std.specs.Prelude.{Ok, Err}
use Rattle.build.specs.Draft.{Draft, Built, counted}
use Rattle.build.specs.Outcome.{Asked, asked, settled, made}
use Rattle.build.specs.Constructors.{has, has_all, nest_right, nil_made, append_made, group_made, flat_alt_made, nest_made, hardline_made, text_made, annotate_made, union_made}
use Rattle.build.specs.Constructors.{align_made, fail_made, space_made, line_made, line₀_made, softline_made, softline₀_made, hang_made, indent_made, enclose_made, concat_made, intersperse_made}
use Rattle.build.specs.Documents.{append_doc, group_doc, nest_doc, text_doc, space_doc, line_doc, line₀_doc, softline_doc, softline₀_doc, hang_doc, indent_doc, enclose_doc, concat_doc, intersperse_doc}
use Rattle.build.specs.Promise.{doc_at, Promise}
use Rattle.build.proofs.Grow.{more-nodes, more_bytes}
use Rattle.build.proofs.Room.{passed, room_of}
use Rattle.build.proofs.Stand.{stands-counted, start, taken, made_told, part}
use Rattle.build.proofs.Clean.{Clean, doc_of, clean-none}
use Rattle.build.proofs.Joins.{below_of}
use Rattle.build.proofs.Means.{Makes, still, nil-makes, hardline-makes, fail-makes, flat_alt-makes, union-makes, align-makes, annotate-makes, group-makes, nest-makes, append-makes}
use Rattle.build.proofs.Compose.{text-makes, space-makes, line-makes, line₀-makes, softline-makes, softline₀-makes, hang-makes, indent-makes, enclose-makes, concat-makes, intersperse-makes}

-- a node is given only where all was granted
was_granted : (q : Asked) (b : Built) (table text : List ℕ) (c : Counts) (n : NodeNo) → (settled q b table text).made ≡ Ok (c, n) → q ≡ Ok tt
was_granted (Ok u) b table text c n e = refl
was_granted (Err why) b table text c n e = let z : ◌≡◌ {A = ℕ} 0 1 = cc in absurd (omega arith)

module _ (c : Counts) (table text : List ℕ) where
  abbrev s₀ : Draft
  s₀ = counted c table text

  pub promise : (present amount right : Bool) (f : Draft → Built) (d : Doc) → (Clean s₀ → present ≡ true → amount ≡ true → right ≡ true → Makes s₀ (f s₀) d)
      → Promise c table text (made c table text present amount right f) d
  unfolding counted made
  promise present amount right f d makes c' n e v =
      let b = f s₀ in
      let p =
      passed c (length table) (length text) present amount right b.draft.counts.nodes b.draft.counts.bytes
      (was_granted (asked c (length table) (length text) present amount right b.draft.counts.nodes b.draft.counts.bytes) b table text c' n e) in
      let first = start c table text p.counted-nodes p.counted-bytes in
      let clean : Clean s₀ = record { whole = first.whole; faults = clean_of s₀.table s₀.text c.nodes (ap (λ (x : Fault). x.answer) v) } in
      let m = makes clean p.operands p.amounts p.texts in
      let o = made c table text present amount right f in
      let went =
      part first f m.grown (room_of b.draft.counts (more-nodes m.grown) (more_bytes m.grown) p) present amount right p.operands p.amounts p.texts
      {m = o.made} {table' = o.table} {text' = o.text} (made_told c table text present amount right f) in
      let t = taken went e in
      let is : counted c' o.table o.text ≡ b.draft = stands-counted t.0 in
      record {
        valid = subst (λ (s : Draft). first_fault s.table s.text s.counts.nodes ≡ none) (sym is) (clean-none m.clean);
        grown = rw t.0.counts (more-nodes m.grown);
        older = λ k h. ap (λ (s : Draft). doc_of s k) is ∙ still clean m k h;
        present = rw (t.1, t.0.counts) m.present;
        unfolds = ap (λ (s : Draft). doc_of s n.0) is ∙ ap (doc_of b.draft) t.1 ∙ m.unfolds;
      }

  -- ---- of each

  pub nil_promise : Promise c table text (nil_made c table text) nil
  nil_promise = promise true true true _ nil (λ k p a r. nil-makes k)

  pub hardline_promise : Promise c table text (hardline_made c table text) hardline
  hardline_promise = promise true true true _ hardline (λ k p a r. hardline-makes k)

  pub fail_promise : Promise c table text (fail_made c table text) fail
  fail_promise = promise true true true _ fail (λ k p a r. fail-makes k)

  pub space_promise : Promise c table text (space_made c table text) space_doc
  space_promise = promise true true true _ space_doc (λ k p a r. space-makes k)

  pub line_promise : Promise c table text (line_made c table text) line_doc
  line_promise = promise true true true _ line_doc (λ k p a r. line-makes k)

  pub line₀_promise : Promise c table text (line₀_made c table text) line₀_doc
  line₀_promise = promise true true true _ line₀_doc (λ k p a r. line₀-makes k)

  pub softline_promise : Promise c table text (softline_made c table text) softline_doc
  softline_promise = promise true true true _ softline_doc (λ k p a r. softline-makes k)

  pub softline₀_promise : Promise c table text (softline₀_made c table text) softline₀_doc
  softline₀_promise = promise true true true _ softline₀_doc (λ k p a r. softline₀-makes k)

  pub text_promise : (bytes : List ℕ) (columns : ℕ) → Promise c table text (text_made c table text bytes columns) (text_doc bytes columns)
  text_promise bytes columns = promise true true (columns_right bytes columns) _ (text_doc bytes columns) (λ k p a r. text-makes k bytes columns r)

  module _ (n : ℕ) where
    there : has c n ≡ true → n < c.nodes
    there p = ltb-true n c.nodes p

    pub align_promise : Promise c table text (align_made c table text n) (align (doc_at c table text n))
    unfolding counted
    align_promise = promise (has c n) true true _ (align (doc_at c table text n)) (λ k p a r. align-makes k n (there p))

    pub group_promise : Promise c table text (group_made c table text n) (group_doc (doc_at c table text n))
    unfolding counted
    group_promise = promise (has c n) true true _ (group_doc (doc_at c table text n)) (λ k p a r. group-makes k n (there p))

    pub annotate_promise : (label : ℕ) → Promise c table text (annotate_made c table text n label) (annotated (doc_at c table text n) label)
    unfolding counted
    annotate_promise label = promise (has c n) true true _ (annotated (doc_at c table text n) label) (λ k p a r. annotate-makes k n (there p) label)

    module _ (amount way : ℕ) where
      in_range : nest_right amount way ≡ true → (amount ≤ 1000) × (way ≤ 1)
      in_range e = let p = and-true (leb amount 1000) (leb way 1) e in (leb-true amount 1000 p.0, leb-true way 1 p.1)

      pub nest_promise : Promise c table text (nest_made c table text n amount way) (nest_doc (doc_at c table text n) amount way)
      unfolding counted
      nest_promise =
          promise (has c n) (nest_right amount way) true _ (nest_doc (doc_at c table text n) amount way)
          (λ k p a r. nest-makes k n (there p) amount way (in_range a).0 (in_range a).1)

      pub hang_promise : Promise c table text (hang_made c table text n amount way) (hang_doc (doc_at c table text n) amount way)
      unfolding counted
      hang_promise =
          promise (has c n) (nest_right amount way) true _ (hang_doc (doc_at c table text n) amount way)
          (λ k p a r. hang-makes k n amount way (there p) (in_range a).0 (in_range a).1)

    pub indent_promise : (by : ℕ) → Promise c table text (indent_made c table text n by) (indent_doc (doc_at c table text n) by)
    unfolding counted
    indent_promise by = promise (has c n) (leb by 1000) true _ (indent_doc (doc_at c table text n) by) (λ k p a r. indent-makes k n by (there p) (leb-true by 1000 a))

    pub enclose_promise : (before behind : ℕ)
        → Promise c table text (enclose_made c table text n before behind) (enclose_doc (doc_at c table text n) (doc_at c table text before) (doc_at c table text behind))
    unfolding counted
    enclose_promise before behind =
        promise (has_all c (before ∷ n ∷ behind ∷ [])) true true _ (enclose_doc (doc_at c table text n) (doc_at c table text before) (doc_at c table text behind))
        (λ k p a r. enclose-makes k n before behind (below_of c (before ∷ n ∷ behind ∷ []) p))

  module _ (a b : ℕ) where
    two : has c a && has c b ≡ true → (a < c.nodes) × (b < c.nodes)
    two e = let p = and-true (has c a) (has c b) e in (there a p.0, there b p.1)

    pub append_promise : Promise c table text (append_made c table text a b) (append_doc (doc_at c table text a) (doc_at c table text b))
    unfolding counted
    append_promise =
        promise (has c a && has c b) true true _ (append_doc (doc_at c table text a) (doc_at c table text b)) (λ k p q r. append-makes k a b (two p).0 (two p).1)

    pub flat_alt_promise : Promise c table text (flat_alt_made c table text a b) (flat_alt (doc_at c table text a) (doc_at c table text b))
    unfolding counted
    flat_alt_promise =
        promise (has c a && has c b) true true _ (flat_alt (doc_at c table text a) (doc_at c table text b)) (λ k p q r. flat_alt-makes k a b (two p).0 (two p).1)

    pub union_promise : Promise c table text (union_made c table text a b) (union (doc_at c table text a) (doc_at c table text b))
    unfolding counted
    union_promise = promise (has c a && has c b) true true _ (union (doc_at c table text a) (doc_at c table text b)) (λ k p q r. union-makes k a b (two p).0 (two p).1)

  module _ (ns : List ℕ) where
    pub concat_promise : Promise c table text (concat_made c table text ns) (concat_doc (map (doc_at c table text) ns))
    unfolding counted
    concat_promise = promise (has_all c ns) true true _ (concat_doc (map (doc_at c table text) ns)) (λ k p a r. concat-makes k ns (below_of c ns p))

    pub intersperse_promise : (n : ℕ) → Promise c table text (intersperse_made c table text ns n) (intersperse_doc (map (doc_at c table text) ns) (doc_at c table text n))
    unfolding counted
    intersperse_promise n =
        promise (has c n && has_all c ns) true true _ (intersperse_doc (map (doc_at c table text) ns) (doc_at c table text n))
        (λ k p a r. let q = and-true (has c n) (has_all c ns) p in intersperse-makes k ns n (there n q.0) (below_of c ns q.1))
