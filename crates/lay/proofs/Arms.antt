-- What a kind's function leaves is where the step function leads, over plain variables: a Union, a Group, a trial given up.
-- Assumes nothing.
use mathlib.Core.Path.{◌≡◌, sym, ap, ◌∙◌}
use Prim.Native.Nat.{ℕ, zero, suc, ◌+◌, ◌-◌, ◌≤◌, ◌<◌}
use native.Mathlib.Omega.{arith}
use native.Mathlib.Nat.{zero-add, suc-add}
use mathlib.Core.Bool.{false}
use Rattle.std.specs.Prelude.{Option, Some, None, Result, Ok, Err}
use mathlib.Core.List.{List, ◌∷◌}
use lib.ListN.{length}
use Rattle.table.specs.declared.NodeNo.{NodeNo}
use Rattle.table.specs.declared.refusal.Refusal.TheVariants.{FailMet}
use Rattle.rules.specs.Layout.{marked, nested}
use Rattle.rules.specs.Layout as rules
use Rattle.machine.specs.Waiting.{Entry, node, trial, closing, save, back}
use Rattle.machine.specs.Turn.{Turned, on, give_up, grouped}
use Rattle.machine.specs.Well.{Backed, Stacked}
use Rattle.page.specs.Reading.{page_of, Within}
use Rattle.page.proofs.Events.{length-events}
use Rattle.page.proofs.Pages.{taken_is, put_back}
use Rattle.waiting.specs.Area.{tag_at, number_at, indent_at, mode_at, tag_in, due_of, due_at, saved_words_at}
use Rattle.waiting.specs.Stack.{mode_of, flag_of, saved_of, saved_at, entry_at, stack_of, reached, Nearest}
use Rattle.waiting.specs.declared.Due.{Due as DueNode}
use Rattle.waiting.specs.declared.Tag.TheVariants.{Trial}
use Rattle.waiting.specs.declared.Saved.{Saved as SavedWords}
use Rattle.waiting.proofs.Laws.{trial_up, from-give_up}
use Rattle.fitting.specs.Fitting.{Fitted}
use Rattle.fitting.specs.declared.fit.Fit.{Fit}
use Rattle.lay.specs.Turning.{Turning, Kept, Restoring, restored_of}
use Rattle.lay.specs.declared.State.{State}
use Rattle.lay.specs.declared.Turn.TheVariants.{Go}

-- ---- what waits

abbrev deeper : State → ℕ → State
deeper s o = record { page = s.page; left = s.left; past = o; depth = s.depth + 1 }

-- a node of its own goes on, and w' holds one entry more
module _ (s : State) (w w' : List ℕ) (due : DueNode) (a b i m : ℕ) (first : due ≡ due_of a i m) where
  pub union-kept : stack_of (s.depth + 1) w' ≡ trial b i (mode_of m) (saved_of (record { page = s.page; past = s.past })) ∷ stack_of s.depth w
      → Kept s (Ok (Go (deeper s 0) due)) w'
      (λ p. on p s.left false (node a i (mode_of m) ∷ trial b i (mode_of m) (save p (flag_of s.past)) ∷ stack_of s.depth w))
  union-kept second =
      record {
        turning = λ out ev in-s. record {
          same = rw (first, second, taken_is s.page out ev in-s.bytes, length-events s.page.events ev);
          within = in-s;
        };
      }

-- ---- a Group

abbrev fewer : State → ℕ → State
fewer s left = record { page = s.page; left = left; past = s.past; depth = s.depth }

module _ {T w w' : List ℕ} {W a : ℕ} (i : ℕ) {m : ℕ} (s : State) {v : Result Fit NodeNo} (broken-now : m ≡ 0) (same-stack : stack_of s.depth w' ≡ stack_of s.depth w)
    (f : Fitted T W a s.depth s.page.column.0 s.left w v w') where
  abbrev leads : rules.Page → Turned
  leads p = grouped T W (mode_of m) a i p s.left (flag_of s.past) (stack_of s.depth w)

  -- by the mode that the fit test says
  group-in : (mode : ℕ) (left : ℕ) (y : mode ≤ 1) → v ≡ Ok (record { mode = record { 0 = mode }; left = left; yes_or_no = y }) → Kept s (Ok (Go (fewer s left) (due_of a i mode))) w' leads
  group-in (suc m) left y e = record { turning = λ out ev in-s. record { same = rw (broken-now, ← f.said, e, same-stack); within = in-s } }
  group-in zero left y e = record { turning = λ out ev in-s. record { same = rw (broken-now, ← f.said, e, same-stack); within = in-s } }

  pub group-goes : (fit : Fit) → v ≡ Ok fit → Kept s (Ok (Go (fewer s fit.left) (due_of a i fit.mode.0))) w' leads
  group-goes fit e = group-in fit.mode.0 fit.left fit.yes_or_no e

-- ---- a trial given up

-- entries further down are well over no more bytes and events
record Below (N room b k : ℕ) (w : List Entry) : Type 0 where
  written : ℕ
  noted : ℕ
  bytes : written ≤ b
  events : noted ≤ k
  stack : Stacked N room written noted w

below_top : (N room b k : ℕ) (e : Entry) (w : List Entry) → Stacked N room b k (e ∷ w) → Below N room b k w
below_top N room b k (node n i m) w h = record { written = b; noted = k; bytes = omega arith; events = omega arith; stack = h.1 }
below_top N room b k (trial x i m s) w h =
    record { written = s.bytes; noted = s.events; bytes = h.1.bytes; events = h.1.events; stack = h.2 }
below_top N room b k (closing n l) w h = record { written = b; noted = k; bytes = omega arith; events = omega arith; stack = h.1 }

below : (N room b k d r : ℕ) (w : List ℕ) → Stacked N room b k (stack_of (d + r) w) → Below N room b k (stack_of r w)
below N room b k zero r w h = record { written = b; noted = k; bytes = omega arith; events = omega arith; stack = rw zero-add at h }
below N room b k (suc d) r w h =
    let h₁ : Stacked N room b k (stack_of (suc (d + r)) w) = rw suc-add at h in
    let t = below_top N room b k (entry_at w (d + r)) (stack_of (d + r) w) h₁ in
    let g = below N room t.written t.noted d r w t.stack in
    record {
      written = g.written;
      noted = g.noted;
      bytes = omega (arith, g.bytes, t.bytes);
      events = omega (arith, g.events, t.events);
      stack = g.stack;
    }

-- what the trial that ends at height d saved is backed by what is there
saved_backed : (N room b k D d : ℕ) (w : List ℕ) → d < D → tag_in (tag_at w d) ≡ Trial → Stacked N room b k (stack_of D w)
    → Backed room b k (saved_at w d)
saved_backed N room b k D d w lt t h =
    let e : D ≡ (D - suc d) + suc d = omega arith in
    let g = below N room b k (D - suc d) (suc d) w (rw e at h) in
    let own = rw (trial_up w d t) at g.stack in
    record {
      column = own.1.column;
      fits = own.1.fits;
      bytes = omega (arith, own.1.bytes, g.bytes);
      events = omega (arith, own.1.events, g.events);
    }

-- the state and the node that the trial which ends at height d gives back
pub give-back : (s : State) (w out ev : List ℕ) (d : ℕ) (due : DueNode) (v : SavedWords) (q : State)
    → Within s.page out ev → Backed (length out) s.page.used s.page.events (saved_at w d)
    → due ≡ due_at w d → v ≡ saved_words_at w d → q ≡ restored_of s.left v d
    → Turning (Ok (Go q due)) out ev w
    (on (back (saved_at w d) (page_of s.page out ev)) s.left (saved_at w d).past (node (number_at w d) (indent_at w d) (mode_of (mode_at w d)) ∷ stack_of d w))
give-back s w out ev d due v q in-s k ed ev' eq =
    record {
      same = rw (eq, ev', ed, put_back s.page (saved_words_at w d).page out ev (record { bytes = k.bytes; events = k.events }));
      within = rw (eq, ev') (record { bytes = k.fits; events = omega (arith, k.events, in-s.events) });
    }

module _ (s : State) (w : List ℕ) {r : Option ℕ} (f : Nearest w s.depth Trial r) where
  -- only the nearest trial counts
  found : (p : rules.Page) → give_up p s.left (stack_of (reached r) w) ≡ give_up p s.left (stack_of s.depth w)
  found p = sym (ap (give_up p s.left) f.found) ∙ from-give_up p s.left (stack_of s.depth w)

  pub fail-none : r ≡ None
      → Restoring s w (Err (record { why = FailMet; place = record { 0 = 0 }; left = s.left })) (λ p. give_up p s.left (stack_of s.depth w))
  fail-none e = record { turning = λ out ev N in-s st. record { same = (rw e) ∙ found (page_of s.page out ev); within = tt } }

  pub fail-some : (d : ℕ) (due : DueNode) (v : SavedWords) (q : State) → r ≡ Some d → due ≡ due_at w d → v ≡ saved_words_at w d → q ≡ restored_of s.left v d
      → Restoring s w (Ok (Go q due)) (λ p. give_up p s.left (stack_of s.depth w))
  fail-some d due v q here ed ev' eq =
      let lt : d < s.depth = rw here at f.within in
      let t = f.tagged d here in
      let trial-on-top = trial_up w d t in
      record {
        turning = λ out ev N in-s st.
            let k = saved_backed N (length out) s.page.used s.page.events s.depth d w lt t st in
            let g = give-back s w out ev d due v q in-s k ed ev' eq in
            let p = page_of s.page out ev in
            record { same = g.same ∙ sym (ap (give_up p s.left) trial-on-top) ∙ (rw here at found p); within = g.within };
      }
