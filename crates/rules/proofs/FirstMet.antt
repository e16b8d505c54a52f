-- The reason of request 2026-01 is the first of the nodes that the fit test meets, in their order, that breaks the group or ends the test flat; and
-- flat is answered exactly if no breaking node comes before the end or a Hardline after the group.
--     reason_first    the reason is such a first node
--     first_one       there is no other
--     flat_exactly    both ways
-- Assumes nothing.
use Prim.Native.Nat.{ℕ, ◌+◌, ◌≤◌, ◌<◌}
use native.Mathlib.Omega.{arith}
use mathlib.Core.Path.{◌≡◌, refl, sym, ◌∙◌}
use mathlib.Core.Logic.{◌↔◌}
use mathlib.Core.Bool.{Bool, true, false, true≢false}
use mathlib.Core.List.{List, [], ◌∷◌, ◌++◌, append_assoc}
use lib.Dec.{leb}
use borrow.Author.Tests.{leb-true, leb-false}
use Rattle.table.specs.Unfold.{Tree, nil, append, group, flat_alt, nest, hardline, text, annotated, union, align, fail}
use Rattle.rules.specs.Layout.{Mode, flat, broken, Entry}
use Rattle.rules.specs.Why.{Reason, at_fail, hardline_inside, text_past, nothing_left, hardline_after, goes_flat, Met, through, found, then_meets, or_else, first_in, first_after, reason}

-- ---- the nodes met

-- a node at which a fit test can stop or gains columns, with its number; a Text with its columns
pub data Stop : Type 0 where
  a_text : ℕ → ℕ → Stop
  a_fail : ℕ → Stop
  inside after : ℕ → Stop

-- those below a node, in the order in which a fit test meets them
unfoldable pub stops : Tree → Mode → List Stop
stops (nil n) m = []
stops (append n a b) m = stops a m ++ stops b m
stops (group n a) m = stops a m
stops (flat_alt n a b) flat = stops b flat
stops (flat_alt n a b) broken = stops a broken
stops (nest n a k way) m = stops a m
stops (hardline n) flat = inside n ∷ []
stops (hardline n) broken = after n ∷ []
stops (text n bs cols) m = a_text n cols ∷ []
stops (annotated n a l) m = stops a m
stops (union n a b) m = stops b m
stops (align n a) m = stops a m
stops (fail n) m = a_fail n ∷ []

unfoldable pub waiting_stops : List Entry → List Stop
waiting_stops [] = []
waiting_stops (w ∷ ws) = stops w.what broken ++ waiting_stops ws

module _ (W : ℕ) where
  -- the node breaks a fit test that meets it at column c, for this reason
  pub data Breaks (c : ℕ) : Stop → Reason → Type 0 where
    at-fail : {n : ℕ} → Breaks c (a_fail n) (at_fail n c)
    at-hardline : {n : ℕ} → Breaks c (inside n) (hardline_inside n c)
    at-text : {n cols : ℕ} → W < c + cols → Breaks c (a_text n cols) (text_past n (c + cols))

  -- the first that breaks or ends; before it stand only Texts that fit
  pub data First : ℕ → List Stop → Reason → Type 0 where
    breaks : {c : ℕ} {x : Stop} {r : Reason} {xs : List Stop} → Breaks c x r → First c (x ∷ xs) r
    nothing : {c : ℕ} → First c [] nothing_left
    ends : {c n : ℕ} {xs : List Stop} → First c (after n ∷ xs) (hardline_after n)
    passes : {c n cols : ℕ} {r : Reason} {xs : List Stop} → c + cols ≤ W → First (c + cols) xs r → First c (a_text n cols ∷ xs) r

  -- no breaking node comes before the end or a Hardline after the group
  pub data Unbroken : ℕ → List Stop → Type 0 where
    to_the_end : {c : ℕ} → Unbroken c []
    to_a-hardline : {c n : ℕ} {xs : List Stop} → Unbroken c (after n ∷ xs)
    past_a-text : {c n cols : ℕ} {xs : List Stop} → c + cols ≤ W → Unbroken (c + cols) xs → Unbroken c (a_text n cols ∷ xs)

  -- ---- the reason is the first

  -- what the walk down a part leads to: on to what follows, or to the first
  abbrev Starts : ℕ → List Stop → Met → Type 0
  Starts c xs (through end) = (ys : List Stop) (r : Reason) → First end ys r → First c (xs ++ ys) r
  Starts c xs (found r) = (ys : List Stop) → First c (xs ++ ys) r

  then-starts : (c : ℕ) (xs ys : List Stop) (v : Met) (next : ℕ → Met) → Starts c xs v → ((c : ℕ) → Starts c ys (next c)) → Starts c (xs ++ ys) (then_meets v next)
  then-starts c xs ys (found r) next h g = λ zs. rw append_assoc (h (ys ++ zs))
  then-starts c xs ys (through end) next h g = by (next end) (g end)
    where
      by : (u : Met) → Starts end ys u → Starts c (xs ++ ys) u
      by (through e) k = λ zs r f. rw append_assoc (h (ys ++ zs) r (k zs r f))
      by (found r) k = λ zs. rw append_assoc (h (ys ++ zs) r (k zs))

  first_in_lem : (t : Tree) (m : Mode) (c : ℕ) → Starts c (stops t m) (first_in W t m c)
  unfolding stops first_in
  first_in_lem (nil n) m c = λ ys r f. f
  first_in_lem (append n a b) m c = then-starts c (stops a m) (stops b m) (first_in W a m c) (λ c. first_in W b m c) (first_in_lem a m c) (λ c. first_in_lem b m c)
  first_in_lem (group n a) m c = first_in_lem a m c
  first_in_lem (flat_alt n a b) flat c = first_in_lem b flat c
  first_in_lem (flat_alt n a b) broken c = first_in_lem a broken c
  first_in_lem (nest n a k way) m c = first_in_lem a m c
  first_in_lem (hardline n) flat c = λ ys. breaks at-hardline
  first_in_lem (hardline n) broken c = λ ys. ends
  first_in_lem (text n bs cols) m c = by (leb (c + cols) W) refl
    where
      by : (b : Bool) → leb (c + cols) W ≡ b → Starts c (a_text n cols ∷ []) (elim b [ true ↦ through (c + cols) | false ↦ found (text_past n (c + cols)) ])
      by true e = λ ys r f. passes (leb-true (c + cols) W e) f
      by false e = λ ys. breaks (at-text (leb-false (c + cols) W e))
  first_in_lem (annotated n a l) m c = first_in_lem a m c
  first_in_lem (union n a b) m c = first_in_lem b m c
  first_in_lem (align n a) m c = first_in_lem a m c
  first_in_lem (fail n) m c = λ ys. breaks at-fail

  else_first : (c : ℕ) (xs ys : List Stop) (v : Met) (next : ℕ → Reason) → Starts c xs v → ((c : ℕ) → First c ys (next c)) → First c (xs ++ ys) (or_else v next)
  else_first c xs ys (through end) next h g = h ys (next end) (g end)
  else_first c xs ys (found r) next h g = h ys

  after_first : (ws : List Entry) (c : ℕ) → First c (waiting_stops ws) (first_after W ws c)
  unfolding waiting_stops first_after
  after_first [] c = nothing
  after_first (w ∷ ws) c = else_first c (stops w.what broken) (waiting_stops ws) (first_in W w.what broken c) (λ c. first_after W ws c) (first_in_lem w.what broken c) (λ c. after_first ws c)

  pub reason_first : (a : Tree) (ws : List Entry) (c : ℕ) → First c (stops a flat ++ waiting_stops ws) (reason W a ws c)
  unfolding reason
  reason_first a ws c = else_first c (stops a flat) (waiting_stops ws) (first_in W a flat c) (λ c. first_after W ws c) (first_in_lem a flat c) (λ c. after_first ws c)

  -- ---- and the only one

  breaks_one : {c : ℕ} {x : Stop} {r r' : Reason} → Breaks c x r → Breaks c x r' → r ≡ r'
  breaks_one at-fail at-fail = refl
  breaks_one at-hardline at-hardline = refl
  breaks_one (at-text h) (at-text g) = refl

  pub first_one : {c : ℕ} {xs : List Stop} {r r' : Reason} → First c xs r → First c xs r' → r ≡ r'
  first_one (breaks h) (breaks g) = breaks_one h g
  first_one (breaks (at-text h)) (passes g k) = absurd (omega arith)
  first_one nothing nothing = refl
  first_one ends ends = refl
  first_one (passes h k) (passes g j) = first_one k j
  first_one (passes h k) (breaks (at-text g)) = absurd (omega arith)
  first_one (breaks h) ends = elim h [ ]
  first_one ends (breaks g) = elim g [ ]

  -- ---- flat exactly if nothing breaks before

  breaks-not-flat : {c : ℕ} {x : Stop} {r : Reason} → Breaks c x r → goes_flat r ≡ false
  breaks-not-flat at-fail = refl
  breaks-not-flat at-hardline = refl
  breaks-not-flat (at-text h) = refl

  flat_unbroken : {c : ℕ} {xs : List Stop} {r : Reason} → First c xs r → goes_flat r ≡ true → Unbroken c xs
  flat_unbroken (breaks h) e = absurd (true≢false (sym e ∙ breaks-not-flat h))
  flat_unbroken nothing e = to_the_end
  flat_unbroken ends e = to_a-hardline
  flat_unbroken (passes h k) e = past_a-text h (flat_unbroken k e)

  unbroken-flat : {c : ℕ} {xs : List Stop} {r : Reason} → First c xs r → Unbroken c xs → goes_flat r ≡ true
  unbroken-flat nothing to_the_end = refl
  unbroken-flat ends to_a-hardline = refl
  unbroken-flat (passes h k) (past_a-text g u) = unbroken-flat k u
  unbroken-flat (breaks (at-text h)) (past_a-text g u) = absurd (omega arith)
  unbroken-flat (breaks at-fail) u = elim u [ ]
  unbroken-flat (breaks at-hardline) u = elim u [ ]

  pub flat_exactly : (a : Tree) (ws : List Entry) (c : ℕ) → goes_flat (reason W a ws c) ≡ true ↔ Unbroken c (stops a flat ++ waiting_stops ws)
  flat_exactly a ws c = (flat_unbroken (reason_first a ws c), unbroken-flat (reason_first a ws c))
