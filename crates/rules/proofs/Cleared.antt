-- What the lent buffers hold after a call: each keeps its length, everything past the used part is zero, and on a refusal all of it. `cleared` says so;
-- the marked cases 9 and 10, whose trials leave provisional bytes, are computed over the whole of small buffers.
-- Assumes nothing.
use Prim.Native.Nat.{ℕ, ◌+◌, ◌-◌, ◌*◌, ◌≤◌, ◌<◌}
use native.Mathlib.Omega.{arith}
use mathlib.Core.Path.{◌≡◌, refl, ap, ◌∙◌, subst}
use mathlib.Core.Bool.{Bool, ◌&&◌}
use mathlib.Core.List.{List, [], ◌∷◌}
use lib.Dec.{T}
use lib.ListN.{length, get_or, replicate, length-append, length-replicate, get_or-replicate}
use lib.Seq.{get_or-append-add}
use Rattle.table.specs.Node.{Node, append, hardline, text, annotated, union}
use Rattle.rules.specs.Layout.{Event, Report}
use Rattle.rules.specs.Call.{Given, call, event_words, words_of, padded, buffers}
use Rattle.rules.proofs.Case.{same, on, lent, computed}
use Rattle.rules.proofs.Answers.{answered}

-- ---- used and zero

pub padded-length : (used : List ℕ) (size : ℕ) → length used ≤ size → length (padded used size) ≡ size
padded-length used size h = simp (length-append, length-replicate) (omega arith)

padded-past : (used : List ℕ) (size i d : ℕ) → length used ≤ i → i < size → get_or (padded used size) i d ≡ 0
padded-past used size i d h k =
    let e : length used + (i - length used) ≡ i = omega arith in
    subst (λ j. get_or (padded used size) j d ≡ 0) e (get_or-append-add used _ (i - length used) d ∙ get_or-replicate (size - length used) (i - length used) 0 d (omega arith))

pub padded-none : (size : ℕ) → padded [] size ≡ replicate size 0
padded-none size =
    let e : size - 0 ≡ size = omega arith in
    ap (λ n. replicate n 0) e

pub length-words : (es : List Event) → length (words_of es) ≡ length es * event_words
unfolding words_of
length-words [] = refl
length-words (e ∷ es) = omega (arith, length-words es)

-- ---- a call

pub record Cleared (g : Given) (r : Report) : Type 0 where
  -- no buffer changes its length
  pub output-whole : length (buffers g r).output ≡ g.room
  pub events-whole : length (buffers g r).events ≡ g.slots * event_words
  pub work-whole : length (buffers g r).work ≡ g.work
  -- everything past the used part is zero, whatever is read outside the buffer
  pub output-past : (i d : ℕ) → length r.bytes ≤ i → i < g.room → get_or (buffers g r).output i d ≡ 0
  pub events-past : (i d : ℕ) → length r.events * event_words ≤ i → i < g.slots * event_words → get_or (buffers g r).events i d ≡ 0
  pub work-zero : (i d : ℕ) → i < g.work → get_or (buffers g r).work i d ≡ 0
  -- and on a refusal all
  pub output-refused : 0 < r.answer → (buffers g r).output ≡ replicate g.room 0
  pub events-refused : 0 < r.answer → (buffers g r).events ≡ replicate (g.slots * event_words) 0

pub cleared : (g : Given) → Cleared g (call g)
unfolding buffers words_of
cleared g =
    let a = answered g in
    let used : length (words_of (call g).events) ≡ length (call g).events * event_words = length-words (call g).events in
    let fit : length (call g).events ≤ g.slots = a.events-fit in
    record {
      output-whole = padded-length (call g).bytes _ a.bytes_fit;
      events-whole = padded-length (words_of (call g).events) _ (omega arith);
      work-whole = length-replicate _ _;
      output-past = padded-past (call g).bytes _;
      events-past = λ i d h. padded-past (words_of (call g).events) _ i d (omega arith);
      work-zero = λ i d h. get_or-replicate _ i 0 d h;
      output-refused = λ z. ap (λ bs. padded bs g.room) (a.bytes-refused z) ∙ padded-none g.room;
      events-refused = λ z. ap (λ es. padded (words_of es) (g.slots * event_words)) (a.events-refused z) ∙ padded-none (g.slots * event_words);
    }

-- ---- cases 9 and 10, all of the buffer

-- in 9 bytes of output and 3 event records
small : List Node → Given
unfolding on lent
small nodes = lent 1000000 9 3 (on nodes "abcdxtail" 3)

tests : Bool
unfolding small same buffers words_of
tests =
    let nine = small (text 0 4 4 ∷ text 4 1 1 ∷ union 0 1 ∷ annotated 2 7 ∷ []) in
    let ten = small (text 0 4 4 ∷ hardline ∷ append 0 1 ∷ text 4 1 1 ∷ union 2 3 ∷ text 5 4 4 ∷ append 4 5 ∷ []) in
    same (buffers nine (call nine)).output (120 ∷ 0 ∷ 0 ∷ 0 ∷ 0 ∷ 0 ∷ 0 ∷ 0 ∷ 0 ∷ [])
    && same (buffers nine (call nine)).events (0 ∷ 1 ∷ 7 ∷ 1 ∷ 0 ∷ 7 ∷ 0 ∷ 0 ∷ 0 ∷ [])
    && same (buffers ten (call ten)).output (120 ∷ 116 ∷ 97 ∷ 105 ∷ 108 ∷ 0 ∷ 0 ∷ 0 ∷ 0 ∷ [])
    && same (buffers ten (call ten)).events (replicate 9 0)

tests-hold : T tests
unfolding tests computed
tests-hold = tt
