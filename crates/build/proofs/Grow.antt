-- A draft only grows: what each part adds stands behind what was there.
--     Whole       counts say how long table and text are
--     Grown       one draft is another with words and bytes behind it; same, then (transitive), whole-grown
--     add-grown .. intersperse-grown   each part
-- Assumes nothing.
use Prim.Native.Nat.{ℕ, ◌+◌, ◌*◌, ◌≤◌}
use native.Mathlib.Omega.{arith}
use native.Mathlib.Nat.{add-zero}
use mathlib.Core.Path.{◌≡◌, refl, sym, ap, ◌∙◌}
use mathlib.Core.Bool.{Bool, true, false, ◌||◌}
use mathlib.Core.List.{List, [], ◌∷◌, ◌++◌, append_assoc, append-nil}
use lib.ListN.{length, length-append}
use lib.Dec.{eqb}
use Rattle.choice.specs.Pick.{pick}
use Rattle.build.specs.Draft.{Draft, Built, older, add, write}
use Rattle.build.specs.Parts.{is_nil, stays, nil, append, group, nest, text, hang, joined}

-- counts say how long table and text are
pub record Whole (s : Draft) : Type 0 where
  pub words : length s.table ≡ s.counts.nodes * 4
  pub bytes : length s.text ≡ s.counts.bytes

-- a draft, and words and bytes behind it
pub record Grown (s s' : Draft) : Type 0 where
  pub words : List ℕ
  pub more : List ℕ
  pub table : s'.table ≡ s.table ++ words
  pub text : s'.text ≡ s.text ++ more
  pub nodes : s'.counts.nodes * 4 ≡ s.counts.nodes * 4 + length words
  pub bytes : s'.counts.bytes ≡ s.counts.bytes + length more

pub same : (s : Draft) → Grown s s
same s =
    record { words = []; more = []; table = sym (append-nil s.table); text = sym (append-nil s.text); nodes = sym (add-zero (s.counts.nodes * 4)); bytes = sym (add-zero s.counts.bytes) }

pub then : {s t u : Draft} → Grown s t → Grown t u → Grown s u
then {s} {t} {u} g h =
    record {
      words = g.words ++ h.words;
      more = g.more ++ h.more;
      table = h.table ∙ ap (λ (l : List ℕ). l ++ h.words) g.table ∙ append_assoc s.table g.words h.words;
      text = h.text ∙ ap (λ (l : List ℕ). l ++ h.more) g.text ∙ append_assoc s.text g.more h.more;
      nodes = simp length-append (omega (arith, g.nodes, h.nodes));
      bytes = simp length-append (omega (arith, g.bytes, h.bytes));
    }

pub whole-grown : {s s' : Draft} → Whole s → Grown s s' → Whole s'
whole-grown {s} {s'} w g =
    record {
      words = ap length g.table ∙ simp length-append (omega (arith, g.nodes, w.words));
      bytes = ap length g.text ∙ simp length-append (omega (arith, g.bytes, w.bytes));
    }

pub more-nodes : {s s' : Draft} → Grown s s' → s.counts.nodes ≤ s'.counts.nodes
more-nodes g = omega (arith, g.nodes)

pub more_bytes : {s s' : Draft} → Grown s s' → s.counts.bytes ≤ s'.counts.bytes
more_bytes g = omega (arith, g.bytes)

-- ---- one node

pub add-grown : (s : Draft) (k a b c : ℕ) → Grown s (add s k a b c).draft
add-grown s k a b c =
    record { words = k ∷ a ∷ b ∷ c ∷ []; more = []; table = refl; text = sym (append-nil s.text); nodes = omega arith; bytes = sym (add-zero s.counts.bytes) }

pub write-grown : (s : Draft) (bytes : List ℕ) → Grown s (write s bytes)
write-grown s bytes =
    record { words = []; more = bytes; table = sym (append-nil s.table); text = refl; nodes = sym (add-zero (s.counts.nodes * 4)); bytes = refl }

pick-grown : (s : Draft) (q : Bool) (x y : Built) → Grown s x.draft → Grown s y.draft → Grown s (pick q x y).draft
pick-grown s true x y g h = g
pick-grown s false x y g h = h

pub append-grown : (s : Draft) (a b : ℕ) → Grown s (append s a b).draft
unfolding append
append-grown s a b =
    pick-grown s (is_nil s a) (older s b) (pick (is_nil s b) (older s a) (add s 1 a b 0)) (same s)
    (pick-grown s (is_nil s b) (older s a) (add s 1 a b 0) (same s) (add-grown s 1 a b 0))

pub group-grown : (s : Draft) (n : ℕ) → Grown s (group s n).draft
unfolding group
group-grown s n = pick-grown s (stays s n) (older s n) (add s 2 n 0 0) (same s) (add-grown s 2 n 0 0)

pub nest-grown : (s : Draft) (n amount way : ℕ) → Grown s (nest s n amount way).draft
unfolding nest
nest-grown s n amount way =
    pick-grown s (is_nil s n || eqb amount 0) (older s n) (add s 4 n amount way) (same s) (add-grown s 4 n amount way)

pub text-grown : (s : Draft) (bytes : List ℕ) (columns : ℕ) → Grown s (text s bytes columns).draft
unfolding text
text-grown s bytes columns =
    pick-grown s (eqb (length bytes) 0) (nil s) (add (write s bytes) 6 s.counts.bytes (length bytes) columns) (add-grown s 0 0 0 0)
    (then (write-grown s bytes) (add-grown (write s bytes) 6 s.counts.bytes (length bytes) columns))

-- ---- composed

pub hang-grown : (s : Draft) (n amount way : ℕ) → Grown s (hang s n amount way).draft
unfolding hang
hang-grown s n amount way = then (nest-grown s n amount way) (add-grown (nest s n amount way).draft 9 _ 0 0)

pub joined-grown : (s : Draft) (n : ℕ) (ns : List ℕ) → Grown s (joined s n ns).draft
unfolding joined
joined-grown s n [] = same s
joined-grown s n (m ∷ ns) = then (append-grown s n m) (joined-grown (append s n m).draft (append s n m).node ns)
