-- What a node's kind word says of its document: whether it is a Nil, and whether Group gives it back. Assumes nothing.
use Prim.Native.Nat.{ℕ, zero, suc, ◌+◌, ◌<◌}
use native.Mathlib.Omega.{arith}
use mathlib.Core.Path.{◌≡◌, refl, sym, ap, ◌∙◌}
use mathlib.Core.Bool.{Bool, true, false, ◌&&◌, ◌||◌}
use mathlib.Core.List.{List}
use lib.ListN.{length, take, drop}
use lib.Dec.{eqb, leb}
use borrow.Author.Tests.{le-leb}
use Rattle.table.specs.Node.{Node, nil, append, group, flat_alt, nest, hardline, text, annotated, union, align, fail, node_of, node_at, word}
use Rattle.buffer.specs.Utf8.{ascii}
use Rattle.table.specs.Fault.{fault_at}
use Rattle.table.specs.Sound.{Sound}
use Rattle.table.specs.Unfold.{Tree, tree_of, tree}
use Rattle.table.specs.Document.{doc}
use Rattle.table.proofs.Accept.{right_of}
use Rattle.table.proofs.Unfolded.{tree-node}
use Rattle.build.specs.Draft.{Draft}
use Rattle.build.specs.Parts.{is_nil, stays}
use Rattle.build.specs.Documents.{is_nil_doc, stays_doc}
use Rattle.build.proofs.Clean.{Clean, doc_of, sound_at}

-- whether a Text's range lies in the text with all bytes below 128
abbrev plain : List ℕ → ℕ → ℕ → Bool
plain bytes o l = leb (o + l) (length bytes) && ascii (take l (drop o bytes))

-- what the two tests say of a node: Nil, and given back by Group
abbrev Says : List ℕ → Node → Bool → Bool → Type 0
Says bytes nil p q = (p ≡ true) × (q ≡ true)
Says bytes (append a b) p q = (p ≡ false) × (q ≡ false)
Says bytes (group a) p q = (p ≡ false) × (q ≡ true)
Says bytes (flat_alt a b) p q = (p ≡ false) × (q ≡ false)
Says bytes (nest a k way) p q = (p ≡ false) × (q ≡ false)
Says bytes hardline p q = (p ≡ false) × (q ≡ false)
Says bytes (text o l c) p q = (p ≡ false) × (q ≡ plain bytes o l)
Says bytes (annotated a l) p q = (p ≡ false) × (q ≡ false)
Says bytes (union a b) p q = (p ≡ false) × (q ≡ false)
Says bytes (align a) p q = (p ≡ false) × (q ≡ false)
Says bytes fail p q = (p ≡ false) × (q ≡ false)

-- by the words
words-say : (bytes : List ℕ) (k a b c : ℕ) → k < 11
    → Says bytes (node_of k a b c) (eqb k 0) (eqb k 0 || eqb k 2 || (eqb k 6 && leb (a + b) (length bytes) && ascii (take b (drop a bytes))))
words-say bytes zero a b c h = (refl, refl)
words-say bytes (suc zero) a b c h = (refl, refl)
words-say bytes (suc (suc zero)) a b c h = (refl, refl)
words-say bytes (suc (suc (suc zero))) a b c h = (refl, refl)
words-say bytes (suc (suc (suc (suc zero)))) a b c h = (refl, refl)
words-say bytes (suc (suc (suc (suc (suc zero))))) a b c h = (refl, refl)
words-say bytes (suc (suc (suc (suc (suc (suc zero)))))) a b c h = (refl, refl)
words-say bytes (suc (suc (suc (suc (suc (suc (suc zero))))))) a b c h = (refl, refl)
words-say bytes (suc (suc (suc (suc (suc (suc (suc (suc zero)))))))) a b c h = (refl, refl)
words-say bytes (suc (suc (suc (suc (suc (suc (suc (suc (suc zero))))))))) a b c h = (refl, refl)
words-say bytes (suc (suc (suc (suc (suc (suc (suc (suc (suc (suc zero)))))))))) a b c h = (refl, refl)
words-say bytes (suc (suc (suc (suc (suc (suc (suc (suc (suc (suc (suc k))))))))))) a b c h = absurd (omega arith)

-- by the document
doc-says : (bytes : List ℕ) (at : ℕ → Tree) (n : ℕ) (x : Node) (p q : Bool) → Sound (length bytes) n x → Says bytes x p q
    → (is_nil_doc (doc (tree_of bytes at n x)) ≡ p) × (stays_doc (doc (tree_of bytes at n x)) ≡ q)
unfolding doc
doc-says bytes at n nil p q h s = (sym s.0, sym s.1)
doc-says bytes at n (append a b) p q h s = (sym s.0, sym s.1)
doc-says bytes at n (group a) p q h s = (sym s.0, sym s.1)
doc-says bytes at n (flat_alt a b) p q h s = (sym s.0, sym s.1)
doc-says bytes at n (nest a k way) p q h s = (sym s.0, sym s.1)
doc-says bytes at n hardline p q h s = (sym s.0, sym s.1)
doc-says bytes at n (text o l c) p q h s = (sym s.0, sym (s.1 ∙ ap (λ (b : Bool). b && ascii (take l (drop o bytes))) (le-leb (o + l) (length bytes) h.0)))
doc-says bytes at n (annotated a l) p q h s = (sym s.0, sym s.1)
doc-says bytes at n (union a b) p q h s = (sym s.0, sym s.1)
doc-says bytes at n (align a) p q h s = (sym s.0, sym s.1)
doc-says bytes at n fail p q h s = (sym s.0, sym s.1)

module _ {s : Draft} (c : Clean s) (n : ℕ) (h : n < s.counts.nodes) where
  known : word s.table n 0 < 11
  unfolding fault_at
  known = (right_of s.text n _ _ _ _ (c.faults n h)).known

  both : (is_nil_doc (doc_of s n) ≡ is_nil s n) × (stays_doc (doc_of s n) ≡ stays s n)
  unfolding node_at stays
  both =
      let sound = sound_at c n h in
      let e = ap doc (tree-node s.table s.text n (length s.text) sound) in
      rw e (doc-says s.text (tree s.table s.text) n (node_at s.table n) _ _ sound (words-say s.text _ _ _ (word s.table n 3) known))

  pub nil_is : is_nil_doc (doc_of s n) ≡ is_nil s n
  nil_is = both.0

  pub stays-is : stays_doc (doc_of s n) ≡ stays s n
  stays-is = both.1
