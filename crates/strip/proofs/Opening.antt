-- The laws of events read one after the other, over plain lists: an event past the place, one that opens or closes, the end; the same of events
-- taken by threes.
-- Assumes nothing.
use Prim.Native.Nat.{ℕ, zero, suc, ◌+◌, ◌-◌, ◌*◌, ◌/◌, ◌≤◌, ◌<◌}
use native.Mathlib.Omega.{arith}
use mathlib.Core.Path.{◌≡◌, refl, sym, ap, ◌∙◌}
use mathlib.Core.List.{List, [], ◌∷◌}
use lib.ListN.{length, get_or, drop, length-drop}
use lib.Seq.{drop-drop, get_or-take}
use Rattle.std.specs.Simd.{first_chunks}
use lib.Dec.{eqb}
use borrow.Author.Tests.{lt-ltb, le-ltb, eq-eqb, ne_eqb}
use Rattle.choice.specs.Pick.{pick}
use Rattle.strip.specs.Marks.{open_at}

past : (n at : ℕ) (rest : List ℕ) → 3 ≤ length rest → at < get_or rest 0 0 → open_at n rest at ≡ n
unfolding open_at
past n at [] h l = absurd (omega arith)
past n at (a ∷ []) h l = absurd (omega arith)
past n at (a ∷ b ∷ []) h l = absurd (omega arith)
past n at (a ∷ b ∷ c ∷ rest) h l = rw (lt-ltb at a l)

next-mark : (n at : ℕ) (rest : List ℕ) → 3 ≤ length rest → get_or rest 0 0 ≤ at → open_at n rest at ≡ open_at (pick (eqb (get_or rest 1 0) 1) (n + 1) (n - 1)) (drop 3 rest) at
unfolding open_at
next-mark n at [] h l = absurd (omega arith)
next-mark n at (a ∷ []) h l = absurd (omega arith)
next-mark n at (a ∷ b ∷ []) h l = absurd (omega arith)
next-mark n at (a ∷ b ∷ c ∷ rest) h l = rw (le-ltb at a l)

-- a word of an event, in the events taken by threes
event-word : (k : ℕ) (events : List ℕ) (i j : ℕ) → i < k → j < 3 → get_or (get_or (first_chunks 3 k events) i []) j 0 ≡ get_or (drop (i * 3) events) j 0
event-word zero events i j h l = absurd (omega arith)
event-word (suc k) events zero j h l = get_or-take 3 events j 0 l
event-word (suc k) events (suc i) j h l =
    let on : suc i * 3 ≡ 3 + i * 3 = omega arith in
    event-word k (drop 3 events) i j (omega arith) l ∙ ap (λ (s : List ℕ). get_or s j 0) (drop-drop (i * 3) 3 events ∙ ap (λ (m : ℕ). drop m events) (sym on))

pub no-mark : (n at : ℕ) (rest : List ℕ) → length rest < 3 → open_at n rest at ≡ n
unfolding open_at
no-mark n at [] h = refl
no-mark n at (a ∷ []) h = refl
no-mark n at (a ∷ b ∷ []) h = refl
no-mark n at (a ∷ b ∷ c ∷ rest) h = absurd (omega arith)

-- an event, of those taken by threes
module _ (events : List ℕ) (n at i : ℕ) (records : List (List ℕ)) (is : records ≡ first_chunks 3 (length events / 3) events) (some : i < length events / 3) where
  abbrev rest : List ℕ
  rest = drop (i * 3) events

  word : (j : ℕ) → j < 3 → get_or (get_or records i []) j 0 ≡ get_or rest j 0
  word j l = ap (λ (r : List (List ℕ)). get_or (get_or r i []) j 0) is ∙ event-word (length events / 3) events i j some l

  there : 3 ≤ length rest
  there = simp length-drop (omega arith)

  offset : get_or (get_or records i []) 0 0 ≡ get_or rest 0 0
  offset = word 0 (omega arith)

  mark : get_or (get_or records i []) 1 0 ≡ get_or rest 1 0
  mark = word 1 (omega arith)

  pub later : at < get_or (get_or records i []) 0 0 → open_at n rest at ≡ n
  later l = past n at rest there (omega (arith, l, offset))

  module _ (reached : get_or (get_or records i []) 0 0 ≤ at) where
    onward : open_at n rest at ≡ open_at (pick (eqb (get_or rest 1 0) 1) (n + 1) (n - 1)) (drop ((i + 1) * 3) events) at
    onward =
        next-mark n at rest there (omega (arith, reached, offset)) ∙ ap (λ (s : List ℕ). open_at (pick (eqb (get_or rest 1 0) 1) (n + 1) (n - 1)) s at) (drop-drop 3 (i * 3) events ∙ ap (λ (m : ℕ). drop m events) (omega arith))

    pub opens : get_or (get_or records i []) 1 0 ≡ 1 → open_at (n + 1) (drop ((i + 1) * 3) events) at ≡ open_at n rest at
    opens e = sym (rw (eq-eqb (get_or rest 1 0) 1 (sym mark ∙ e)) at onward)

    pub closes : (get_or (get_or records i []) 1 0 ≡ 1 → ⊥) → open_at (n - 1) (drop ((i + 1) * 3) events) at ≡ open_at n rest at
    closes e = sym (rw (ne_eqb (get_or rest 1 0) 1 (λ f. e (mark ∙ f))) at onward)
