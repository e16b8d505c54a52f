-- How what is built follows on what was built (specs/Build.antt).
--     empty-valid                the empty table is valid
--     new, kept, shares-kept     the node built, an older one, and the shared ones, over the table afterwards
--     after                      from one answer to the next, over what the first built
--     refused, given             a refusal handed on, and an older node given back
--     gives, nils .. joins      each constructor, by the documents of its operands
--     answers, stops, goes       a chain of constructors, by the answer of the first
-- Assumes nothing.
use Prim.Native.Nat.{ℕ}
use native.Mathlib.Omega.{arith}
use mathlib.Core.Path.{◌≡◌, refl, sym, ap, ap₂, ◌∙◌, subst}
use mathlib.Core.List.{List, [], ◌∷◌}
use Rattle.table.specs.Fault.{first_fault}
use Rattle.table.specs.Document.{Doc, nil, hardline, annotated, union}
use Rattle.table.specs.declared.NodeNo.{NodeNo}
use Rattle.build.specs.declared.Counts.{Counts}
use Rattle.build.specs.declared.Why.{Why}
use Rattle.build.specs.Outcome.{Made}
use Rattle.std.specs.Prelude.{Ok, Err}
use Rattle.std.specs.Result.{IsErrAnd}
use Rattle.build.proofs.Handed.{handed}
use Rattle.build.specs.Outcome.{Outcome, outcome}
use Rattle.build.specs.Constructors.{nil_made, hardline_made, line_made, group_made, text_made, append_made, nest_made, annotate_made, union_made, concat_made}
use Rattle.build.specs.Documents.{line_doc, group_doc, text_doc, append_doc, nest_doc, concat_doc}
use Rattle.buffer.specs.Parts.{characters}
use Rattle.build.specs.Promise.{ValidSoFar, Builds, Promise}
use Rattle.build.proofs.Promises.{nil_promise, hardline_promise, line_promise, group_promise, text_promise, append_promise, nest_promise, annotate_promise, union_promise, concat_promise}
use Rattle.words.specs.declared.Shared.{Shared}
use Rattle.words.specs.Documents.{leaf_doc}
use Rattle.words.specs.Build.{Is, Shares, Gives}
use Rattle.words.specs.Start.{next}

pub empty-valid : (table text : List ℕ) → ValidSoFar (record { nodes = 0; bytes = 0 }) table text
unfolding first_fault
empty-valid table text = refl

module _ {c c' : Counts} {t x : List ℕ} {o : Outcome} {d : Doc} {n : NodeNo} (b : Builds c t x o d c' n) where
  pub new : Is c' o.table o.text n d
  new = record { there = b.present; unfolds = b.unfolds }

  pub kept : {m : NodeNo} {e : Doc} → Is c t x m e → Is c' o.table o.text m e
  kept {m} i = record { there = omega (arith, b.grown, i.there); unfolds = b.older m.0 i.there ∙ i.unfolds }

  pub shares-kept : {shared : Shared} → Shares c t x shared → Shares c' o.table o.text shared
  shares-kept s = record { none = kept s.none; hardline = kept s.hardline; line = kept s.line; softline = kept s.softline }

  then : {o' : Outcome} {e : Doc} {c'' : Counts} {m : NodeNo} → Builds c' o.table o.text o' e c'' m → Builds c t x o' e c'' m
  then a =
      record {
        valid = a.valid;
        grown = omega (arith, b.grown, a.grown);
        older = λ k h. a.older k (omega (arith, b.grown)) ∙ b.older k h;
        present = a.present;
        unfolds = a.unfolds;
      }

module _ {c : Counts} {t x : List ℕ} where
  pub after : {r : Made} {t' x' : List ℕ} {d : Doc} {c' : Counts} {n : NodeNo} {o : Outcome} {e : Doc} → Gives c t x r t' x' d → r ≡ Ok (c', n) → (Builds c t x (outcome r t' x') d c' n → Promise c' t' x' o e) → Promise c t x o e
  after {c' = c'} {n = n} g is f = λ k m e v. let b = g c' n is v in then b (f b k m e b.valid)

  pub refused : (r : Made) {t' x' : List ℕ} {d : Doc} (why : Why) → IsErrAnd r (λ w. w ≡ why) → Gives c t x r t' x' d
  refused r why h = λ k m e v. let is = handed r h in let z : ◌≡◌ {A = ℕ} 0 1 = cc in absurd (omega arith)

  pub given : {n : NodeNo} {d : Doc} → Is c t x n d → Gives c t x (Ok (c, n)) t x d
  given {n} {d} i = λ k m e v.
      let both : ◌≡◌ {A = Counts × NodeNo} (c, n) (k, m) = cc in
      let p : c ≡ k = ap (λ (z : Counts × NodeNo). z.0) both in
      let q : n ≡ m = ap (λ (z : Counts × NodeNo). z.1) both in
      let b : Builds c t x (outcome (Ok (c, n)) t x) d c n = record { valid = v; grown = omega arith; older = λ j h. refl; present = i.there; unfolds = i.unfolds } in
      subst (λ (z : Counts). Builds c t x (outcome (Ok (c, n)) t x) d z m) p (subst (λ (z : NodeNo). Builds c t x (outcome (Ok (c, n)) t x) d c z) q b)

  -- ---- each constructor

  pub gives : {o o' : Outcome} {d e : Doc} → o ≡ o' → d ≡ e → Promise c t x o' d → Promise c t x o e
  gives {o} {d = d} is says p = subst (λ (z : Doc). Promise c t x o z) says (subst (λ (z : Outcome). Promise c t x z d) (sym is) p)

  module _ {r : Made} {t' x' : List ℕ} where
    pub nils : outcome r t' x' ≡ nil_made c t x → Gives c t x r t' x' nil
    nils is = gives is refl (nil_promise c t x)

    pub feeds : outcome r t' x' ≡ hardline_made c t x → Gives c t x r t' x' hardline
    feeds is = gives is refl (hardline_promise c t x)

    pub lines : outcome r t' x' ≡ line_made c t x → Gives c t x r t' x' line_doc
    lines is = gives is refl (line_promise c t x)

  pub writes : {r : Made} {t' x' : List ℕ} (bytes : List ℕ) (columns : ℕ) → columns ≡ characters bytes → outcome r t' x' ≡ text_made c t x bytes columns → Gives c t x r t' x' (leaf_doc bytes)
  writes bytes columns e is = gives is (ap (text_doc bytes) e) (text_promise c t x bytes columns)

  module _ {r : Made} {t' : List ℕ} {a : NodeNo} {d : Doc} (i : Is c t x a d) where
    pub groups : outcome r t' x ≡ group_made c t x a.0 → Gives c t x r t' x (group_doc d)
    groups is = gives is (ap group_doc i.unfolds) (group_promise c t x a.0)

    pub nests : (amount way : ℕ) → outcome r t' x ≡ nest_made c t x a.0 amount way → Gives c t x r t' x (nest_doc d amount way)
    nests amount way is = gives is (ap (λ (z : Doc). nest_doc z amount way) i.unfolds) (nest_promise c t x a.0 amount way)

    pub annotates : (label : ℕ) → outcome r t' x ≡ annotate_made c t x a.0 label → Gives c t x r t' x (annotated d label)
    annotates label is = gives is (ap (λ (z : Doc). annotated z label) i.unfolds) (annotate_promise c t x a.0 label)

    module _ {b : NodeNo} {e : Doc} (j : Is c t x b e) where
      pub appends : outcome r t' x ≡ append_made c t x a.0 b.0 → Gives c t x r t' x (append_doc d e)
      appends is = gives is (ap₂ append_doc i.unfolds j.unfolds) (append_promise c t x a.0 b.0)

      pub unites : outcome r t' x ≡ union_made c t x a.0 b.0 → Gives c t x r t' x (union d e)
      unites is = gives is (ap₂ union i.unfolds j.unfolds) (union_promise c t x a.0 b.0)

      module _ {m : NodeNo} {f : Doc} (k : Is c t x m f) where
        pub joins : outcome r t' x ≡ concat_made c t x (a.0 ∷ b.0 ∷ m.0 ∷ []) → Gives c t x r t' x (concat_doc (d ∷ e ∷ f ∷ []))
        joins is = gives is (λ q. concat_doc (i.unfolds q ∷ j.unfolds q ∷ k.unfolds q ∷ [])) (concat_promise c t x (a.0 ∷ b.0 ∷ m.0 ∷ []))

-- ---- a chain of constructors

module _ {r : Made} {t x : List ℕ} {o : Outcome} (is : outcome r t x ≡ o) where
  pub answers : {r' : Made} → r ≡ r' → outcome r' t x ≡ o
  answers e = ap (λ (m : Made). outcome m t x) (sym e) ∙ is

  pub stops : (f : Counts → ℕ → List ℕ → List ℕ → Outcome) {why : Why} → r ≡ Err why → outcome (Err why) t x ≡ next o f
  stops f e = ap (λ (z : Outcome). next z f) (answers e)

  pub goes : (f : Counts → ℕ → List ℕ → List ℕ → Outcome) {c : Counts} {n : NodeNo} → r ≡ Ok (c, n) → f c n.0 t x ≡ next o f
  goes f e = ap (λ (z : Outcome). next z f) (answers e)
