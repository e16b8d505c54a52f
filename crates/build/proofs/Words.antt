-- Reading a draft that grew: old nodes keep their words, and a new node has the words that it was made of.
--     old-word, new_word          a word of an old node, and of the next one
--     append-present              what Append answers is a node of its draft
-- Assumes nothing.
use Prim.Native.Nat.{ℕ, ◌+◌, ◌*◌, ◌<◌}
use native.Mathlib.Omega.{arith}
use mathlib.Core.Path.{◌≡◌, sym, ap, ◌∙◌}
use mathlib.Core.Bool.{Bool, true, false}
use mathlib.Core.List.{List, ◌++◌}
use lib.ListN.{get_or, get_or-append}
use lib.Seq.{get_or-append-add}
use Rattle.choice.specs.Pick.{pick}
use Rattle.table.specs.Node.{word}
use Rattle.build.specs.Draft.{Draft, Built, older, add}
use Rattle.build.specs.Parts.{is_nil, append}
use Rattle.build.proofs.Grow.{Whole, Grown}

pub old-word : {s s' : Draft} → Whole s → Grown s s' → (n i : ℕ) → n < s.counts.nodes → i < 4 → word s'.table n i ≡ word s.table n i
old-word {s} {s'} w g n i h k =
    ap (λ (t : List ℕ). get_or t (n * 4 + i) 0) g.table ∙ get_or-append s.table g.words 0 (n * 4 + i) (omega (arith, w.words))

pub new_word : {s : Draft} → Whole s → (words : List ℕ) (i : ℕ) → get_or (s.table ++ words) (s.counts.nodes * 4 + i) 0 ≡ get_or words i 0
new_word {s} w words i = ap (λ (n : ℕ). get_or (s.table ++ words) (n + i) 0) (sym w.words) ∙ get_or-append-add s.table words i 0

pick-present : (s : Draft) (q : Bool) (x y : Built) → x.node < x.draft.counts.nodes → y.node < y.draft.counts.nodes
    → (pick q x y).node < (pick q x y).draft.counts.nodes
pick-present s true x y h k = h
pick-present s false x y h k = k

pub append-present : (s : Draft) (a b : ℕ) → a < s.counts.nodes → b < s.counts.nodes → (append s a b).node < (append s a b).draft.counts.nodes
unfolding append
append-present s a b h k =
    pick-present s (is_nil s a) (older s b) (pick (is_nil s b) (older s a) (add s 1 a b 0)) k
    (pick-present s (is_nil s b) (older s a) (add s 1 a b 0) h (omega arith))
