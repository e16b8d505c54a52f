-- What waits is taken up: what the loop keeps, and how each end keeps it.
-- Assumes nothing.
use mathlib.Core.Path.{◌≡◌, refl, sym, ap, ◌∙◌}
use Prim.Native.Nat.{ℕ, zero, suc, ◌-◌, ◌*◌, ◌/◌, ◌≤◌, ◌<◌}
use native.Mathlib.Omega.{arith}
use mathlib.Core.Bool.{true}
use Rattle.std.specs.Prelude.{Option, Some, None, Result, Ok, Err}
use mathlib.Core.List.{List}
use lib.ListN.{length}
use Rattle.rules.specs.Call.{event_words}
use Rattle.table.specs.declared.NodeNo.{NodeNo}
use Rattle.table.specs.declared.refusal.Refusal.TheVariants.{NoEvents}
use Rattle.rules.specs.Layout.{Limits, marked}
use Rattle.machine.specs.Turn.{Turned}
use Rattle.machine.proofs.Kept.{stacked_mono}
use Rattle.page.specs.Reading.{page_of, Within}
use Rattle.page.specs.Putting.{Noted}
use Rattle.page.specs.declared.Page.{Page}
use Rattle.page.proofs.Pages.{noted-full-says, noted-on-says, noted-counts}
use Rattle.waiting.specs.Area.{area_words, tag_in, tag_at, number_at, indent_at, due_at, saved_words_at}
use Rattle.waiting.specs.Stack.{flag_of, stack_of}
use Rattle.waiting.specs.declared.Due.{Due}
use Rattle.waiting.specs.declared.Tag.TheVariants.{Node, Trial, Closing}
use Rattle.waiting.specs.declared.Saved.{Saved as SavedWords}
use Rattle.waiting.proofs.Laws.{node-top, trial-top, closing-top}
use Rattle.lay.specs.Turning.{Waits, restored_of}
use Rattle.lay.specs.declared.State.{State}
use Rattle.lay.specs.declared.Turn.{Turn}
use Rattle.lay.specs.declared.Turn.TheVariants.{Go, Done}
use Rattle.lay.specs.declared.Stopped.{Stopped}
use Rattle.lay.proofs.Arms.{give-back}
use Rattle.render.specs.TakeUp.{Rises, take_up, TakenUp}

-- where what waits leads, over the output
abbrev leads : Limits → State → List ℕ → List ℕ → List ℕ → Turned
leads L s out ev w = take_up L (page_of s.page out ev) s.left (flag_of s.past) (stack_of s.depth w)

-- s₀ and ev₀ where the loop began, s and ev now: from here it leads where it led from the start
pub record Rising (ev₀ w : List ℕ) (s₀ : State) (ev : List ℕ) (s : State) : Type 0 where
  pub depth : s.depth ≤ 1024
  pub area : area_words ≤ length w
  pub slots : length ev / event_words ≤ 4096
  pub long : length ev ≡ length ev₀
  pub noted : s.page.events * event_words ≤ length ev
  pub small : s.page.used ≤ 65536
  pub within : (out : List ℕ) → Within s₀.page out ev₀ → Within s.page out ev
  pub said : (L : Limits) (out : List ℕ) (N : ℕ) → L.slots ≡ length ev₀ / event_words → Within s₀.page out ev₀ → Waits N (length out) s₀ w
      → Waits N (length out) s w × (leads L s out ev w ≡ leads L s₀ out ev₀ w)

pub rise-start : (ev w : List ℕ) (s : State) → Rises s ev w → Rising ev w s ev s
rise-start ev w s h =
    record {
      depth = h.0;
      area = h.1;
      slots = h.3;
      long = refl;
      noted = h.2;
      small = h.4;
      within = λ out in-s. in-s;
      said = λ L out N e in-s waits. (waits, refl);
    }

flag-set : (o : ℕ) → (o ≡ 0 → ⊥) → flag_of o ≡ true
flag-set zero h = absurd (h refl)
flag-set (suc o) h = refl

pub go-is-not-done : (due : Due) (s q : State) → ◌≡◌ {A = Result Turn Stopped} (Ok (Go s due)) (Ok (Done q)) → q.depth ≡ 0
go-is-not-done due s q e = let z : ◌≡◌ {A = ℕ} 0 1 = cc in absurd (omega arith)

pub stop-is-not-done : (x : Stopped) (q : State) → ◌≡◌ {A = Result Turn Stopped} (Err x) (Ok (Done q)) → q.depth ≡ 0
stop-is-not-done x q e = let z : ◌≡◌ {A = ℕ} 0 1 = cc in absurd (omega arith)

done-is : (s q : State) → s.depth ≡ 0 → ◌≡◌ {A = Result Turn Stopped} (Ok (Done s)) (Ok (Done q)) → q.depth ≡ 0
done-is s q z e = let f : s ≡ q = cc in sym (ap (λ (x : State). x.depth) f) ∙ z

-- one entry less waits
abbrev lower : State → Page → ℕ → State
lower s page past = record { page = page; left = s.left; past = past; depth = s.depth - 1 }

module _ {ev₀ w : List ℕ} {s₀ : State} {ev : List ℕ} {s : State} (h : Rising ev₀ w s₀ ev s) where
  pub rise-done : s.depth ≤ 0 → TakenUp s₀ ev₀ w (Ok (Done s)) ev
  unfolding take_up
  rise-done le =
      let z : s.depth ≡ 0 = omega arith in
      record {
        turning = λ L out N e in-s waits. record { same = (rw z) ∙ (h.said L out N e in-s waits).1; within = h.within out in-s };
        empty = λ q e. done-is s q z e;
      }

  module _ (some : 0 < s.depth) where
    abbrev d : ℕ
    d = s.depth - 1

    pub rise-node : (due : Due) → tag_in (tag_at w d) ≡ Node → due ≡ due_at w d → TakenUp s₀ ev₀ w (Ok (Go (lower s s.page s.past) due)) ev
    unfolding take_up
    rise-node due t p =
        let on-top = node-top w s.depth some t in
        record {
          turning = λ L out N e in-s waits. record {
            same = rw p (sym (ap (take_up L (page_of s.page out ev) s.left (flag_of s.past)) on-top)) ∙ (h.said L out N e in-s waits).1;
            within = h.within out in-s;
          };
          empty = λ q e. go-is-not-done due _ q e;
        }

    -- a trial's arm is done: it is given up, or kept
    pub rise_give : (due : Due) (v : SavedWords) (q : State) → tag_in (tag_at w d) ≡ Trial → (s.past ≡ 0 → ⊥)
        → due ≡ due_at w d → v ≡ saved_words_at w d → q ≡ restored_of s.left v d → TakenUp s₀ ev₀ w (Ok (Go q due)) ev
    unfolding take_up
    rise_give due v q t o pd pv eq =
        let on-top = trial-top w s.depth some t in
        record {
          turning = λ L out N e in-s waits.
              let g = h.said L out N e in-s waits in
              let own = rw on-top at g.0 in
              let b = give-back s w out ev d due v q (h.within out in-s) own.1 pd pv eq in
              record { same = b.same ∙ sym (rw (on-top, flag-set s.past o)) ∙ g.1; within = b.within };
          empty = λ q' e. go-is-not-done due q q' e;
        }

    pub rise_keep : (v : SavedWords) → tag_in (tag_at w d) ≡ Trial → s.past ≡ 0 → v ≡ saved_words_at w d → Rising ev₀ w s₀ ev (lower s s.page v.past)
    unfolding take_up
    rise_keep v t o pv =
        let on-top = trial-top w s.depth some t in
        record {
          depth = omega (arith, h.depth);
          area = h.area;
          slots = h.slots;
          long = h.long;
          noted = h.noted;
          small = h.small;
          within = h.within;
          said = λ L out N e in-s waits.
              let g = h.said L out N e in-s waits in
              let own = rw on-top at g.0 in (
                stacked_mono N _ _ s.page.used _ s.page.events (stack_of d w) own.1.bytes own.1.events own.2,
                rw pv (sym (rw (on-top, o))) ∙ g.1,
              );
        }

    -- an annotation ends
    module _ (ends : tag_in (tag_at w d) ≡ Closing) {r : Option Page} {ev' : List ℕ}
        (p : Noted s.page ev r ev' (marked 0 (indent_at w d))) (len : length ev' ≡ length ev) where
      pub rise-full : (n : NodeNo) → n.0 ≡ number_at w d → r ≡ None → TakenUp s₀ ev₀ w (Err (record { why = NoEvents; place = n; left = s.left })) ev'
      unfolding take_up
      rise-full n en z =
          record {
            turning = λ L out N e in-s waits.
                let slots : L.slots ≡ length ev / event_words = rw h.long e in
                let full = noted-full-says p out (h.within out in-s) z in
                record {
                  same = rw en (sym (rw (closing-top w s.depth some ends, slots, full))) ∙ (h.said L out N e in-s waits).1;
                  within = tt;
                };
            empty = λ q e. stop-is-not-done _ q e;
          }

      pub rise_close : (page : Page) → r ≡ Some page → Rising ev₀ w s₀ ev' (lower s page s.past)
      unfolding take_up
      rise_close page z =
          let p₁ : Noted s.page ev (Some page) ev' (marked 0 (indent_at w d)) = rw z at p in
          let counts = noted-counts p₁ h.noted in
          record {
            depth = omega (arith, h.depth);
            area = h.area;
            slots = omega (arith, h.slots, len);
            long = len ∙ h.long;
            noted = counts.2;
            small = omega (arith, counts.0, h.small);
            within = λ out in-s. p₁.within out (h.within out in-s);
            said = λ L out N e in-s waits.
                let g = h.said L out N e in-s waits in
                let own = rw (closing-top w s.depth some ends) at g.0 in
                let slots : L.slots ≡ length ev / event_words = rw h.long e in
                let noted = noted-on-says p₁ out (h.within out in-s) page refl in
                let fits = rw (← slots) at noted.0 in (
                  stacked_mono N _ s.page.used page.used s.page.events page.events (stack_of d w) (omega (arith, counts.0)) (omega (arith, counts.1)) own.1,
                  rw noted.1 (sym (rw (closing-top w s.depth some ends, fits))) ∙ g.1,
                );
          }
