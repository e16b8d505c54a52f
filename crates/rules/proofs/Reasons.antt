-- The reason of request 2026-01 and the fit test: with steps enough the test says yes exactly if the reason is one of the two for flat, and the run
-- lays the group accordingly.
--     fit-met       the walk down a node: the fit test is spent, or goes on where the walk comes through, or says what the reason says
--     rest-met      the waiting nodes
--     test-met      the whole fit test of a Group
--     says-why      what the test says, where the steps don't run out in it
--     group_goes    a Group met broken in layout: its child goes flat exactly if flat is answered
-- Assumes nothing.
use Prim.Native.Nat.{ℕ, ◌+◌}
use mathlib.Core.Path.{◌≡◌, refl, ap, ◌∙◌}
use mathlib.Core.Bool.{Bool, true, false}
use mathlib.Core.List.{List, [], ◌∷◌}
use lib.Dec.{eqb, leb}
use Rattle.table.specs.Unfold.{Tree, nil, append, group, flat_alt, nest, hardline, text, annotated, union, align, fail}
use Rattle.rules.specs.Layout.{Limits, Page, Mode, flat, broken, mode_if, Entry, Fit, says, spent, refused, broken_group, steps, chosen, visit, look, fit, rest, lay}
use Rattle.rules.specs.Why.{Reason, goes_flat, Met, through, found, then_meets, or_else, first_in, first_after, reason}

-- a fit test that is not spent goes on as k where the walk came through, else says yes or no by the reason
pub data Tests (k : ℕ → ℕ → Fit) : Met → Fit → Type 0 where
  stopped : {x : Met} {n s : ℕ} → Tests k x (spent n s)
  goes_on : {c s : ℕ} → Tests k (through c) (k c s)
  told : {r : Reason} {s : ℕ} → Tests k (found r) (says (goes_flat r) s)

-- the same where nothing follows
pub data Tells : Reason → Fit → Type 0 where
  ran_out : {r : Reason} {n s : ℕ} → Tells r (spent n s)
  answers : {r : Reason} {s : ℕ} → Tells r (says (goes_flat r) s)

module _ (L : Limits) where
  look-met : (k : ℕ → ℕ → Fit) {x : Met} (n s : ℕ) {go : ℕ → Fit} → ((s : ℕ) → Tests k x (go s)) → Tests k x (look L n s go)
  unfolding visit
  look-met k {x} n s {go} h = by (eqb s L.limit)
    where
      by : (b : Bool) → Tests k x (elim b [ true ↦ spent n s | false ↦ go (s + 1) ])
      by true = stopped
      by false = h (s + 1)

  -- what is tested with k after it is tested with what follows k
  then-met : (k k' : ℕ → ℕ → Fit) {x : Met} {next : ℕ → Met} {v : Fit} → Tests k x v → ((c s : ℕ) → Tests k' (next c) (k c s)) → Tests k' (then_meets x next) v
  then-met k k' stopped h = stopped
  then-met k k' (goes_on {c} {s}) h = h c s
  then-met k k' told h = told

  pub fit-met : (t : Tree) (m : Mode) (k : ℕ → ℕ → Fit) (c s : ℕ) → Tests k (first_in L.width t m c) (fit L t m k c s)
  unfolding fit first_in
  fit-met (nil n) m k c s = look-met k n s (λ s. goes_on)
  fit-met (append n a b) m k c s =
      look-met k n s (λ s. then-met _ k (fit-met a m (λ c s. fit L b m k c s) c s) (λ c s. fit-met b m k c s))
  fit-met (group n a) m k c s = look-met k n s (λ s. fit-met a m k c s)
  fit-met (flat_alt n a b) flat k c s = look-met k n s (λ s. fit-met b flat k c s)
  fit-met (flat_alt n a b) broken k c s = look-met k n s (λ s. fit-met a broken k c s)
  fit-met (nest n a d way) m k c s = look-met k n s (λ s. fit-met a m k c s)
  fit-met (hardline n) flat k c s = look-met k n s (λ s. told)
  fit-met (hardline n) broken k c s = look-met k n s (λ s. told)
  fit-met (text n bs cols) m k c s = look-met k n s (λ s. by (leb (c + cols) L.width) s)
    where
      by : (b : Bool) (s : ℕ)
          → Tests k (elim b [ true ↦ through (c + cols) | false ↦ found (Reason.text_past n (c + cols)) ])
          (elim b [ true ↦ k (c + cols) s | false ↦ says false s ])
      by true s = goes_on
      by false s = told
  fit-met (annotated n a l) m k c s = look-met k n s (λ s. fit-met a m k c s)
  fit-met (union n a b) m k c s = look-met k n s (λ s. fit-met b m k c s)
  fit-met (align n a) m k c s = look-met k n s (λ s. fit-met a m k c s)
  fit-met (fail n) m k c s = look-met k n s (λ s. told)

  else-met : (k : ℕ → ℕ → Fit) {x : Met} {next : ℕ → Reason} {v : Fit} → Tests k x v → ((c s : ℕ) → Tells (next c) (k c s)) → Tells (or_else x next) v
  else-met k stopped h = ran_out
  else-met k (goes_on {c} {s}) h = h c s
  else-met k told h = answers

  pub rest-met : (ws : List Entry) (c s : ℕ) → Tells (first_after L.width ws c) (rest L ws c s)
  unfolding rest first_after
  rest-met [] c s = answers
  rest-met (w ∷ ws) c s = else-met _ (fit-met w.what broken (rest L ws) c s) (λ c s. rest-met ws c s)

  pub test-met : (a : Tree) (ws : List Entry) (c s : ℕ) → Tells (reason L.width a ws c) (fit L a flat (rest L ws) c s)
  unfolding reason
  test-met a ws c s = else-met _ (fit-met a flat (rest L ws) c s) (λ c s. rest-met ws c s)

  says-met : {r : Reason} {v : Fit} {b : Bool} {s : ℕ} → Tells r v → v ≡ says b s → b ≡ goes_flat r
  says-met ran_out e = cc
  says-met answers e = cc

  pub says-why : (a : Tree) (ws : List Entry) (c s : ℕ) {b : Bool} {s' : ℕ} → fit L a flat (rest L ws) c s ≡ says b s' → b ≡ goes_flat (reason L.width a ws c)
  says-why a ws c s e = says-met (test-met a ws c s) e

  pub group_goes : (n : ℕ) (a : Tree) (i : ℕ) (ws : List Entry) (p : Page) (s : ℕ) {b : Bool} {s' : ℕ}
      → eqb s L.limit ≡ false → fit L a flat (rest L ws) p.column (s + 1) ≡ says b s'
      → lay L (group n a) i broken ws p s ≡ lay L a i (mode_if (goes_flat (reason L.width a ws p.column))) ws p s'
  unfolding lay visit
  group_goes n a i ws p s {b} {s'} more e =
      ap (λ t. elim t [ true ↦ refused (steps (broken_group a ws p.column)) n s | false ↦ chosen (fit L a flat (rest L ws) p.column (s + 1)) (λ m s. lay L a i m ws p s) ]) more
      ∙ ap (λ v. chosen v (λ m s. lay L a i m ws p s)) e
      ∙ goes b
      ∙ ap (λ q. lay L a i (mode_if q) ws p s') (says-why a ws p.column (s + 1) e)
    where
      goes : (q : Bool) → chosen (says q s') (λ m s. lay L a i m ws p s) ≡ lay L a i (mode_if q) ws p s'
      goes true = refl
      goes false = refl
