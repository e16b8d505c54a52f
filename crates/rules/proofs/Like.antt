-- Like trees run alike. Trees are like if they differ only in their nodes' numbers, by N, and in their labels, by B; pages by any relation P that
-- layout keeps. `lay_like` stands last: it serves renumbered nodes (N any, B and P equality) and changed labels (P over the events' labels).
-- Assumes nothing.
use Prim.Native.Nat.{ℕ, ◌+◌}
use mathlib.Core.Path.{◌≡◌, refl, ap, subst}
use mathlib.Core.Bool.{Bool, true, false}
use mathlib.Core.List.{List, [], ◌∷◌}
use lib.Dec.{eqb, leb, ltb}
use lib.ListN.{length}
use Rattle.table.specs.Node.{Way}
use Rattle.table.specs.Unfold.{Tree, nil, append, group, flat_alt, nest, hardline, text, annotated, union, align, fail}
use Rattle.rules.specs.Layout.{Limits, Page, Mode, flat, broken, Entry, broken_group, other, Refusal, steps, bytes, events, Outcome, done, failed, refused, Fit, says, spent, next, also, and_then, try, chosen, visit, look, fit, rest, step, put, event, lay, taken, fed, wrote, marked}

module _ (N B : ℕ → ℕ → Type 0) (P : Page → Page → Type 0) where
  -- ---- what is like

  pub data TreeLike : Tree → Tree → Type 0 where
    nil_like : {n n' : ℕ} → N n n' → TreeLike (nil n) (nil n')
    append_like : {n n' : ℕ} {a a' b b' : Tree} → N n n' → TreeLike a a' → TreeLike b b' → TreeLike (append n a b) (append n' a' b')
    group_like : {n n' : ℕ} {a a' : Tree} → N n n' → TreeLike a a' → TreeLike (group n a) (group n' a')
    flat_alt_like : {n n' : ℕ} {a a' b b' : Tree} → N n n' → TreeLike a a' → TreeLike b b' → TreeLike (flat_alt n a b) (flat_alt n' a' b')
    nest_like : {n n' : ℕ} {a a' : Tree} {k : ℕ} {w : Way} → N n n' → TreeLike a a' → TreeLike (nest n a k w) (nest n' a' k w)
    hardline_like : {n n' : ℕ} → N n n' → TreeLike (hardline n) (hardline n')
    text_like : {n n' : ℕ} {bs : List ℕ} {cols : ℕ} → N n n' → TreeLike (text n bs cols) (text n' bs cols)
    annotated_like : {n n' : ℕ} {a a' : Tree} {l l' : ℕ} → N n n' → TreeLike a a' → B l l' → TreeLike (annotated n a l) (annotated n' a' l')
    union_like : {n n' : ℕ} {a a' b b' : Tree} → N n n' → TreeLike a a' → TreeLike b b' → TreeLike (union n a b) (union n' a' b')
    align_like : {n n' : ℕ} {a a' : Tree} → N n n' → TreeLike a a' → TreeLike (align n a) (align n' a')
    fail_like : {n n' : ℕ} → N n n' → TreeLike (fail n) (fail n')

  -- waiting nodes, with the same indentation
  pub data WaitLike : List Entry → List Entry → Type 0 where
    none_wait : WaitLike [] []
    one_waits : {t t' : Tree} {i : ℕ} {ws ws' : List Entry} → TreeLike t t' → WaitLike ws ws' → WaitLike (record { what = t; ind = i } ∷ ws) (record { what = t'; ind = i } ∷ ws')

  -- refusals, with like Groups due
  pub data RefusalLike : Refusal → Refusal → Type 0 where
    group-due : {a a' : Tree} {ws ws' : List Entry} {c : ℕ} → TreeLike a a' → WaitLike ws ws' → RefusalLike (steps (broken_group a ws c)) (steps (broken_group a' ws' c))
    other-due : RefusalLike (steps other) (steps other)
    event-full : RefusalLike events events

  -- outcomes, with the same steps; the place of 8 is 0 in both
  pub data Like : Outcome → Outcome → Type 0 where
    both-done : {p q : Page} {o : Bool} {s : ℕ} → P p q → Like (done p o s) (done q o s)
    both-failed : {s : ℕ} → Like (failed s) (failed s)
    both-refused : {r r' : Refusal} {n n' s : ℕ} → RefusalLike r r' → N n n' → Like (refused r n s) (refused r' n' s)
    both-full : {s : ℕ} → Like (refused bytes 0 s) (refused bytes 0 s)

  data FitLike : Fit → Fit → Type 0 where
    both_say : {b : Bool} {s : ℕ} → FitLike (says b s) (says b s)
    both-spent : {n n' s : ℕ} → N n n' → FitLike (spent n s) (spent n' s)

  -- what layout does to a page keeps the relation
  pub record Kept : Type 0 where
    pub same-column : (p q : Page) → P p q → p.column ≡ q.column
    pub same_taken : (p q : Page) → P p q → taken p ≡ taken q
    pub same-events : (p q : Page) → P p q → length p.events ≡ length q.events
    pub keeps-wrote : (bs : List ℕ) (cols : ℕ) (p q : Page) → P p q → P (wrote bs cols p) (wrote bs cols q)
    pub keeps-fed : (i : ℕ) (p q : Page) → P p q → P (fed i p) (fed i q)
    pub keeps-marked : (m l l' : ℕ) (p q : Page) → B l l' → P p q → P (marked m l p) (marked m l' q)

  -- ---- one thing after another

  like-also : (o : Bool) {x y : Outcome} → Like x y → Like (also o x) (also o y)
  like-also o (both-done h) = both-done h
  like-also o both-failed = both-failed
  like-also o (both-refused d h) = both-refused d h
  like-also o both-full = both-full

  like-then : {x y : Outcome} {f g : Page → ℕ → Outcome} → Like x y → ((p q : Page) (s : ℕ) → P p q → Like (f p s) (g q s)) → Like (and_then x f) (and_then y g)
  like-then (both-done {p = p} {q = q} {o = o} {s = s} h) k = like-also o (k p q s h)
  like-then both-failed k = both-failed
  like-then (both-refused d h) k = both-refused d h
  like-then both-full k = both-full

  like-try : {x y : Outcome} {f g : ℕ → Outcome} → Like x y → ((s : ℕ) → Like (f s) (g s)) → Like (try x f) (try y g)
  like-try (both-done {o = true} {s = s} h) k = k s
  like-try (both-done {o = false} h) k = both-done h
  like-try (both-failed {s}) k = k s
  like-try (both-refused d h) k = both-refused d h
  like-try both-full k = both-full

  like-chosen : {x y : Fit} {f g : Mode → ℕ → Outcome} → FitLike x y → ((m : Mode) (s : ℕ) → Like (f m s) (g m s)) → Like (chosen x f) (chosen y g)
  like-chosen (both_say {b = true} {s = s}) k = k flat s
  like-chosen (both_say {b = false} {s = s}) k = k broken s
  like-chosen (both-spent h) k = both-refused other-due h

  next_like : {ws ws' : List Entry} → WaitLike ws ws' → (i : ℕ) → next ws i ≡ next ws' i
  next_like none_wait i = refl
  next_like (one_waits t w) i = refl

  module _ (L : Limits) where
    visit_like : {R : Type 0} (Q : R → R → Type 0) {stop stop' : R} (s : ℕ) {go go' : ℕ → R} → Q stop stop' → ((s : ℕ) → Q (go s) (go' s)) → Q (visit L stop s go) (visit L stop' s go')
    unfolding visit
    visit_like Q {stop} {stop'} s {go} {go'} h k = by (eqb s L.limit)
      where
        by : (b : Bool) → Q (elim b [ true ↦ stop | false ↦ go (s + 1) ]) (elim b [ true ↦ stop' | false ↦ go' (s + 1) ])
        by true = h
        by false = k (s + 1)

    look_like : {n n' : ℕ} (s : ℕ) {go go' : ℕ → Fit} → N n n' → ((s : ℕ) → FitLike (go s) (go' s)) → FitLike (look L n s go) (look L n' s go')
    look_like s h k = visit_like FitLike s (both-spent h) k

    step_like : {n n' : ℕ} (s : ℕ) {go go' : ℕ → Outcome} → N n n' → ((s : ℕ) → Like (go s) (go' s)) → Like (step L n s go) (step L n' s go')
    step_like s h k = visit_like Like s (both-refused other-due h) k

    -- ---- the fit test

    fit_like : {t t' : Tree} → TreeLike t t' → (m : Mode) (k k' : ℕ → ℕ → Fit) → ((c s : ℕ) → FitLike (k c s) (k' c s)) → (c s : ℕ) → FitLike (fit L t m k c s) (fit L t' m k' c s)
    unfolding fit
    fit_like (nil_like h) m k k' e c s = look_like s h (λ s. e c s)
    fit_like (append_like h a b) m k k' e c s = look_like s h (λ s. fit_like a m _ _ (fit_like b m k k' e) c s)
    fit_like (group_like h a) m k k' e c s = look_like s h (λ s. fit_like a m k k' e c s)
    fit_like (flat_alt_like h a b) flat k k' e c s = look_like s h (λ s. fit_like b flat k k' e c s)
    fit_like (flat_alt_like h a b) broken k k' e c s = look_like s h (λ s. fit_like a broken k k' e c s)
    fit_like (nest_like h a) m k k' e c s = look_like s h (λ s. fit_like a m k k' e c s)
    fit_like (hardline_like h) flat k k' e c s = look_like s h (λ s. both_say)
    fit_like (hardline_like h) broken k k' e c s = look_like s h (λ s. both_say)
    fit_like (text_like {cols = cols} h) m k k' e c s = look_like s h (λ s. by (leb (c + cols) L.width) s)
      where
        by : (b : Bool) (s : ℕ) → FitLike (elim b [ true ↦ k (c + cols) s | false ↦ says false s ]) (elim b [ true ↦ k' (c + cols) s | false ↦ says false s ])
        by true s = e (c + cols) s
        by false s = both_say
    fit_like (annotated_like h a l) m k k' e c s = look_like s h (λ s. fit_like a m k k' e c s)
    fit_like (union_like h a b) m k k' e c s = look_like s h (λ s. fit_like b m k k' e c s)
    fit_like (align_like h a) m k k' e c s = look_like s h (λ s. fit_like a m k k' e c s)
    fit_like (fail_like h) m k k' e c s = look_like s h (λ s. both_say)

    rest_like : {ws ws' : List Entry} → WaitLike ws ws' → (c s : ℕ) → FitLike (rest L ws c s) (rest L ws' c s)
    unfolding rest
    rest_like none_wait c s = both_say
    rest_like (one_waits t w) c s = fit_like t broken _ _ (λ c s. rest_like w c s) c s

    -- ---- layout

    module _ (K : Kept) where
      put_like : (p q : Page) (o : Bool) (s : ℕ) → P p q → taken p ≡ taken q → Like (put L p o s) (put L q o s)
      unfolding put
      put_like p q o s h e = rw (e, put) (by (leb (taken q) L.room))
        where
          by : (b : Bool) → Like (elim b [ true ↦ done p o s | false ↦ refused bytes 0 s ]) (elim b [ true ↦ done q o s | false ↦ refused bytes 0 s ])
          by true = both-done h
          by false = both-full

      event_like : (n n' m l l' : ℕ) (p q : Page) (s : ℕ) → N n n' → B l l' → P p q → Like (event L n m l p s) (event L n' m l' q s)
      unfolding event
      event_like n n' m l l' p q s g b h = rw (K.same-events p q h, event) (by (ltb (length q.events) L.slots))
        where
          by : (b : Bool) → Like (elim b [ true ↦ done (marked m l p) false s | false ↦ refused events n s ]) (elim b [ true ↦ done (marked m l' q) false s | false ↦ refused events n' s ])
          by true = both-done (K.keeps-marked m l l' p q b h)
          by false = both-refused event-full g

      put-kept : {p q : Page} (o o' : Bool) (s : ℕ) → P p q → o ≡ o' → Like (put L p o s) (put L q o' s)
      put-kept {p} {q} o o' s h e = subst (λ b. Like (put L p o s) (put L q b s)) e (put_like p q o s h (K.same_taken p q h))

      pub lay_like : {t t' : Tree} → TreeLike t t' → (i : ℕ) (m : Mode) {ws ws' : List Entry} → WaitLike ws ws' → (p q : Page) (s : ℕ) → P p q → Like (lay L t i m ws p s) (lay L t' i m ws' q s)
      unfolding lay
      lay_like (nil_like h) i m w p q s e = step_like s h (λ s. both-done e)
      lay_like (append_like h a b) i m w p q s e = step_like s h (λ s. like-then (lay_like a i m (one_waits b w) p q s e) (λ p q s e. lay_like b i m w p q s e))
      lay_like (group_like h a) i flat w p q s e = step_like s h (λ s. lay_like a i flat w p q s e)
      lay_like (group_like {a = t} {a' = t'} h a) i broken {ws} {ws'} w p q s e =
          visit_like Like s
          (both-refused (subst (λ c. RefusalLike (steps (broken_group t ws p.column)) (steps (broken_group t' ws' c))) (K.same-column p q e) (group-due a w)) h)
          (λ s. like-chosen (subst (λ c. FitLike (fit L t flat (rest L ws) p.column s) (fit L t' flat (rest L ws') c s)) (K.same-column p q e) (fit_like a flat _ _ (rest_like w) p.column s)) (λ m s. lay_like a i m w p q s e))
      lay_like (flat_alt_like h a b) i flat w p q s e = step_like s h (λ s. lay_like b i flat w p q s e)
      lay_like (flat_alt_like h a b) i broken w p q s e = step_like s h (λ s. lay_like a i broken w p q s e)
      lay_like (nest_like h a) i m w p q s e = step_like s h (λ s. lay_like a _ m w p q s e)
      lay_like (hardline_like h) i m {ws} {ws'} w p q s e =
          step_like s h (λ s. subst (λ j. Like (put L (fed (next ws i) p) false s) (put L (fed j q) false s)) (next_like w i) (put-kept false false s (K.keeps-fed _ p q e) refl))
      lay_like (text_like {bs = bs} {cols = cols} h) i m w p q s e =
          step_like s h (λ s. put-kept _ _ s (K.keeps-wrote bs cols p q e) (ap (λ c. ltb L.width (c + cols)) (K.same-column p q e)))
      lay_like (annotated_like {n = n} {n' = n'} {l = l} {l' = l'} h a b) i m w p q s e =
          step_like s h
          (λ s. like-then (event_like n n' 1 l l' p q s h b e) (λ p q s e. like-then (lay_like a i m w p q s e) (λ p q s e. event_like n n' 0 l l' p q s h b e)))
      lay_like (union_like h a b) i m w p q s e = step_like s h (λ s. like-try (lay_like a i m w p q s e) (λ s. lay_like b i m w p q s e))
      lay_like (align_like {a = t} {a' = t'} h a) i m {ws} {ws'} w p q s e =
          step_like s h (λ s. subst (λ j. Like (lay L t p.column m ws p s) (lay L t' j m ws' q s)) (K.same-column p q e) (lay_like a p.column m w p q s e))
      lay_like (fail_like h) i m w p q s e = step_like s h (λ s. both-failed)
