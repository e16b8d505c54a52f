-- The rules seen from what waits: `whole` is how a run ends that stands at a page, with what waits, a flag and steps. What an outcome does to it,
-- and that pages which agree on what was saved end alike. Node n unfolds to `at n`.
-- Assumes nothing.
use Prim.Native.Nat.{ℕ, zero, suc, ◌+◌, ◌-◌, ◌≤◌, ◌<◌}
use mathlib.Core.Path.{◌≡◌, refl, sym, ap, ◌∙◌}
use mathlib.Core.Bool.{Bool, true, false, ◌||◌}
use mathlib.Core.List.{List, [], ◌∷◌, ◌++◌}
use native.Mathlib.Omega.{arith}
use lib.ListN.{length, take}
use lib.Seq.{take-take, take-append-le, take-length}
use lib.Dec.{eqb}
use borrow.Author.Tests.{eq-eqb, ne_eqb}
use Rattle.table.specs.Unfold.{Tree}
use Rattle.rules.specs.Layout.{Limits, Page, Mode, Event, Refusal, Outcome, done, failed, refused, next, also, and_then, try}
use Rattle.rules.specs.Layout as rules
use Rattle.machine.specs.Waiting.{Saved, save, Entry, node, trial, closing, back, next_indent, waiting}
use Rattle.machine.specs.Well.{Stacked}

-- ---- a step, where `left` of the limit are left

module _ (L : Limits) {R : Type 0} (stop : R) (go : ℕ → R) where
  pub visit_goes : (left : ℕ) → left < L.limit → rules.visit L stop (L.limit - suc left) go ≡ go (L.limit - left)
  unfolding rules.visit
  visit_goes left h =
      let e : eqb (L.limit - suc left) L.limit ≡ false = ne_eqb (L.limit - suc left) L.limit (λ e. omega arith) in
      let e' : L.limit - suc left + 1 ≡ L.limit - left = omega arith in
      rw (e, e', rules.visit)

  pub visit_stops : rules.visit L stop (L.limit - zero) go ≡ stop
  unfolding rules.visit
  visit_stops =
      let e : eqb (L.limit - zero) L.limit ≡ true = eq-eqb (L.limit - zero) L.limit (omega arith) in
      rw (e, rules.visit)

-- ---- outcomes

pub or-false : (o : Bool) → o || false ≡ o
or-false true = refl
or-false false = refl

or_assoc : (o q r : Bool) → (o || q) || r ≡ o || (q || r)
or_assoc true q r = refl
or_assoc false q r = refl

pub also-false : (x : Outcome) → also false x ≡ x
also-false (done p o s) = refl
also-false (failed s) = refl
also-false (refused r n s) = refl

also-also : (o q : Bool) (x : Outcome) → also o (also q x) ≡ also (o || q) x
also-also o q (done p r s) = ap (λ b. done p b s) (sym (or_assoc o q r))
also-also o q (failed s) = refl
also-also o q (refused r n s) = refl

then-also : (q : Bool) (x : Outcome) (f : Page → ℕ → Outcome) → and_then (also q x) f ≡ also q (and_then x f)
then-also q (done p r s) f = sym (also-also q r (f p s))
then-also q (failed s) f = refl
then-also q (refused r n s) f = refl

-- ---- pages that agree on so many bytes and events

pub record Agree (bytes events : ℕ) (p q : Page) : Type 0 where
  pub outs : take bytes p.out ≡ take bytes q.out
  pub marks : take events p.events ≡ take events q.events

-- what a trial puts back is the same
back-same : (a : Saved) (b v : ℕ) (p q : Page) → a.bytes ≤ b → a.events ≤ v → Agree b v p q → back a p ≡ back a q
back-same a b v p q h g e =
    let outs : take a.bytes p.out ≡ take a.bytes q.out =
    sym (take-take a.bytes b p.out h) ∙ ap (take a.bytes) e.outs ∙ take-take a.bytes b q.out h in
    let marks : take a.events p.events ≡ take a.events q.events =
    sym (take-take a.events v p.events g) ∙ ap (take a.events) e.marks ∙ take-take a.events v q.events g in
    rw (outs, marks)

-- a page that was just saved is put back
pub back_now : (p : Page) (o : Bool) → back (save p o) p ≡ p
back_now p o = rw (take-length p.out, take-length p.events)

pub back_agrees : (a : Saved) (p : Page) → Agree a.bytes a.events (back a p) p
back_agrees a p = record { outs = take-take a.bytes a.bytes p.out (omega arith); marks = take-take a.events a.events p.events (omega arith) }

pub longer_agrees : (p : Page) (c : ℕ) (bs : List ℕ)
    → Agree (length p.out) (length p.events) p (record { column = c; out = p.out ++ bs; events = p.events })
longer_agrees p c bs = record { outs = sym (take-append-le (length p.out) p.out bs (omega arith)); marks = refl }

pub more_agrees : (p : Page) (vs : List Event)
    → Agree (length p.out) (length p.events) p (record { column = p.column; out = p.out; events = p.events ++ vs })
more_agrees p vs = record { outs = refl; marks = sym (take-append-le (length p.events) p.events vs (omega arith)) }

-- ---- how a run ends

module _ (L : Limits) (at : ℕ → Tree) where
  pub next-is : (i : ℕ) (w : List Entry) → next (waiting at w) i ≡ next_indent i w
  unfolding waiting
  next-is i [] = refl
  next-is i (node n j m ∷ w) = refl
  next-is i (trial b j m a ∷ w) = next-is i w
  next-is i (closing n l ∷ w) = next-is i w

  -- What was on top ended as x, trials put back from the page p, and o says whether a Text laid before in the innermost trial ended past width.
  unfoldable pub finish : Page → List Entry → Bool → Outcome → Outcome
  finish p [] o x = also o x
  finish p (node n i m ∷ w) o x = finish p w o (and_then x (λ p s. rules.lay L (at n) i m (waiting at w) p s))
  finish p (trial b i m a ∷ w) o x = finish (back a p) w a.past (try (also o x) (λ s. rules.lay L (at b) i m (waiting at w) (back a p) s))
  finish p (closing n l ∷ w) o x = finish p w o (and_then x (λ p s. rules.event L n 0 l p s))

  unfoldable pub whole : Page → List Entry → Bool → ℕ → Outcome
  whole p w o s = finish p w o (done p false s)

  -- a Text that ended past width raises the flag
  finish-also : (p : Page) (w : List Entry) (o q : Bool) (x : Outcome) → finish p w o (also q x) ≡ finish p w (o || q) x
  unfolding finish
  finish-also p [] o q x = also-also o q x
  finish-also p (node n i m ∷ w) o q x = ap (finish p w o) (then-also q x _) ∙ finish-also p w o q _
  finish-also p (trial b i m a ∷ w) o q x =
      ap (λ y. finish (back a p) w a.past (try y (λ s. rules.lay L (at b) i m (waiting at w) (back a p) s))) (also-also o q x)
  finish-also p (closing n l ∷ w) o q x = ap (finish p w o) (then-also q x _) ∙ finish-also p w o q _

  -- a refusal ends the whole call
  pub finish-refused : (p : Page) (w : List Entry) (o : Bool) (r : Refusal) (n s : ℕ) → finish p w o (refused r n s) ≡ refused r n s
  unfolding finish
  finish-refused p [] o r n s = refl
  finish-refused p (node a i m ∷ w) o r n s = finish-refused p w o r n s
  finish-refused p (trial b i m a ∷ w) o r n s = finish-refused (back a p) w a.past r n s
  finish-refused p (closing a l ∷ w) o r n s = finish-refused p w o r n s

  -- only what was saved counts of the page that trials put back from
  pub finish-same : (N r b v : ℕ) (p q : Page) (w : List Entry) (o : Bool) (x : Outcome) → Stacked N r b v w → Agree b v p q → finish p w o x ≡ finish q w o x
  unfolding finish
  finish-same N r b v p q [] o x s e = refl
  finish-same N r b v p q (node n i m ∷ w) o x s e = finish-same N r b v p q w o _ s.1 e
  finish-same N r b v p q (trial d i m a ∷ w) o x s e =
      ap (λ r. finish r w a.past (try (also o x) (λ s. rules.lay L (at d) i m (waiting at w) r s))) (back-same a b v p q s.1.bytes s.1.events e)
  finish-same N r b v p q (closing n l ∷ w) o x s e = finish-same N r b v p q w o _ s.1 e

  -- the node on top
  pub whole-node : (p : Page) (n i : ℕ) (m : Mode) (w : List Entry) (o : Bool) (s : ℕ)
      → whole p (node n i m ∷ w) o s ≡ finish p w o (rules.lay L (at n) i m (waiting at w) p s)
  unfolding whole finish
  whole-node p n i m w o s = ap (finish p w o) (also-false _)

  -- a page that was written or marked
  pub whole-done : (N r : ℕ) (p q : Page) (w : List Entry) (o ends-past : Bool) (s : ℕ)
      → Stacked N r (length p.out) (length p.events) w → Agree (length p.out) (length p.events) p q
      → finish p w o (done q ends-past s) ≡ whole q w (o || ends-past) s
  unfolding whole
  whole-done N r p q w o ends-past s k e =
      finish-same N r _ _ p q w o _ k e ∙ ap (λ b. finish q w o (done q b s)) (sym (or-false ends-past)) ∙ finish-also q w o ends-past (done q false s)
