-- Sheets without a fault, and what their nodes unfold to.
--     Clean            counts are right, and no counted node has a fault
--     clean_old        old nodes have no fault in a draft that grew; old-doc: and the same documents
--     clean-add        one node more without a fault; new-doc: what it unfolds to
-- Assumes nothing.
use Prim.Native.Nat.{ℕ, suc, ◌+◌, ◌<◌}
use native.Mathlib.Omega.{arith}
use native.Mathlib.Decide.{dec_lt}
use mathlib.Core.Path.{◌≡◌, sym, ap, ◌∙◌}
use mathlib.Core.List.{List, [], ◌∷◌, ◌++◌}
use lib.ListN.{length, get_or, take, drop, length-append}
use lib.Seq.{take-append_seam, take-length}
use Rattle.table.specs.Node.{node_of, node_at, word}
use Rattle.table.specs.Fault.{fault_of, fault_at, first_fault, none}
use Rattle.table.specs.Valid.{NodeRight, TextRight}
use Rattle.table.specs.Sound.{Sound, AllSound}
use Rattle.table.specs.Unfold.{tree_of, tree}
use Rattle.table.specs.Document.{Doc, doc}
use Rattle.table.proofs.Accept.{right_of, of_right, of_clean}
use Rattle.table.proofs.Sound.{sound_of}
use Rattle.table.proofs.Unfolded.{part_same, tree-node, tree-append}
use Rattle.build.specs.Draft.{Draft, add}
use Rattle.build.proofs.Grow.{Whole, Grown, whole-grown, add-grown}
use Rattle.build.proofs.Words.{old-word, new_word}

pub record Clean (s : Draft) : Type 0 where
  pub whole : Whole s
  pub faults : (n : ℕ) → n < s.counts.nodes → fault_at s.table s.text n ≡ 0

abbrev pub doc_of : Draft → ℕ → Doc
doc_of s n = doc (tree s.table s.text n)

pub clean-none : {s : Draft} → Clean s → first_fault s.table s.text s.counts.nodes ≡ none
clean-none {s} c = of_clean s.table s.text s.counts.nodes c.faults

pub sound_at : {s : Draft} → Clean s → (n : ℕ) → n < s.counts.nodes → Sound (length s.text) n (node_at s.table n)
sound_at {s} c n h = sound_of s.table s.text n (c.faults n h)

-- ---- old nodes

-- a Text's range and bytes, with bytes behind them
text_longer : (text more : List ℕ) (a b c : ℕ) → TextRight text a b c → TextRight (text ++ more) a b c
text_longer text more a b c r =
    let same : take b (drop a (text ++ more)) ≡ take b (drop a text) =
    part_same (length text) a b (text ++ more) text (take-append_seam text more ∙ sym (take-length text)) r.inside in
    record { inside = simp length-append (let i = r.inside in omega arith); unfed = rw same r.unfed; utf8 = rw same r.utf8; below128 = λ e. r.below128 (rw same at e); columns = r.columns }

node_longer : (text more : List ℕ) (n k a b c : ℕ) → NodeRight text n k a b c → NodeRight (text ++ more) n k a b c
node_longer text more n k a b c r =
    record {
      known = r.known;
      unused-a = r.unused-a;
      unused-b = r.unused-b;
      unused-c = r.unused-c;
      first-child = r.first-child;
      second-child = r.second-child;
      nest = r.nest;
      text = λ e. text_longer text more a b c (r.text e);
    }

module _ {s s' : Draft} (c : Clean s) (g : Grown s s') (n : ℕ) (h : n < s.counts.nodes) where
  pub clean_old : fault_at s'.table s'.text n ≡ 0
  unfolding fault_at
  clean_old =
      let w : (i : ℕ) → i < 4 → word s'.table n i ≡ word s.table n i = λ i l. old-word c.whole g n i h l in
      let r = right_of s.text n _ _ _ _ (c.faults n h) in
      rw (w 0 (omega arith), w 1 (omega arith), w 2 (omega arith), w 3 (omega arith), g.text) (of_right _ n _ _ _ _ (node_longer s.text g.more n _ _ _ _ r))

  pub old-doc : doc_of s' n ≡ doc_of s n
  old-doc =
      let v : AllSound s.table (length s.text) (suc n) = λ m l. sound_at c m (omega arith) in
      let e = tree-append s.table s.text n g.words g.more (let w = c.whole.words in omega arith) v in
      ap doc (rw (g.table, g.text) (sym e))

-- ---- one node more

module _ (s : Draft) (k a b d : ℕ) (c : Clean s) (right : fault_of s.text s.counts.nodes k a b d ≡ 0) where
  fault_new : fault_at (add s k a b d).draft.table s.text s.counts.nodes ≡ 0
  unfolding fault_at
  fault_new =
      let w : (i : ℕ) → word (add s k a b d).draft.table s.counts.nodes i ≡ get_or (k ∷ a ∷ b ∷ d ∷ []) i 0 = λ i. new_word c.whole (k ∷ a ∷ b ∷ d ∷ []) i in
      rw (w 0, w 1, w 2, w 3) right

  pub clean-add : Clean (add s k a b d).draft
  clean-add =
      record {
        whole = whole-grown c.whole (add-grown s k a b d);
        faults = λ n h. go n h (dec_lt n s.counts.nodes);
      }
    where
      go : (n : ℕ) → n < s.counts.nodes + 1 → Dec (n < s.counts.nodes) → fault_at (add s k a b d).draft.table s.text n ≡ 0
      go n h (yes l) = clean_old c (add-grown s k a b d) n l
      go n h (no l) = let e : n ≡ s.counts.nodes = omega arith in rw e fault_new

  node_new : node_at (add s k a b d).draft.table s.counts.nodes ≡ node_of k a b d
  unfolding node_at
  node_new =
      let w : (i : ℕ) → word (add s k a b d).draft.table s.counts.nodes i ≡ get_or (k ∷ a ∷ b ∷ d ∷ []) i 0 = λ i. new_word c.whole (k ∷ a ∷ b ∷ d ∷ []) i in
      λ i. node_of (w 0 i) (w 1 i) (w 2 i) (w 3 i)

  -- the new node, by its words and the documents before it
  pub new-doc : doc_of (add s k a b d).draft s.counts.nodes ≡ doc (tree_of s.text (tree (add s k a b d).draft.table s.text) s.counts.nodes (node_of k a b d))
  new-doc =
      let t = (add s k a b d).draft in
      ap doc
      (tree-node t.table s.text s.counts.nodes (length s.text) (sound_at clean-add s.counts.nodes (omega arith))
      ∙ ap (tree_of s.text (tree t.table s.text) s.counts.nodes) node_new)
