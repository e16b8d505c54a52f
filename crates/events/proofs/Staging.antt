-- From the call over words to the call over records: the two ways `staged` answers.
-- Assumes nothing.
use mathlib.Core.Path.{◌≡◌, refl, sym, ap, subst, ◌∙◌}
use mathlib.Core.Bool.{Bool, true, false, ◌&&◌}
use mathlib.Core.List.{List, [], ◌++◌, append_assoc}
use Prim.Native.Nat.{ℕ, ◌-◌, ◌*◌, ◌/◌, ◌<◌}
use native.Mathlib.Omega.{arith}
use borrow.Author.Tests.{lt-leb}
use lib.Dec.{leb}
use lib.ListN.{length, replicate}
use Rattle.rules.specs.Layout as rules
use Rattle.rules.specs.Call.{Given, refusal, call, event_words, words_of, padded}
use Rattle.rules.proofs.Answers.{answered}
use Rattle.layout.specs.declared.Report.{Report}
use Rattle.layout.specs.Called.{held}
use Rattle.layout.specs.Called as words
use Rattle.events.specs.Records.{published}
use Rattle.events.specs.Called.{asked, as_records, records_of, Called}
use Rattle.events.proofs.Published.{published-held}

-- ---- more records than a call may lend

second_fails : (a b c d e : Bool) → b ≡ false → (a && b && c && d && e) ≡ false
second_fails true b c d e h = rw h
second_fails false b c d e h = refl

too_many : (g : Given) → 4096 < g.slots → call g ≡ refusal 1 0
unfolding call
too_many g h = simp (second_fails (leb g.room 65536) (leb g.slots 4096) (leb 16384 g.work) (leb g.width 65535) (leb g.limit 100000000) (lt-leb _ _ h))

pub refused_called : (g : Given) (out work ws : List ℕ) → 4096 < g.slots → out ≡ replicate g.room 0 → work ≡ replicate g.work 0
    → Called g (record { answer = 1; place = record { 0 = 0 }; steps = 0; used = 0; events = 0 }) out (published ws 0 g.slots) work
unfolding words_of records_of
refused_called g out work ws h o k =
    let e : call g ≡ refusal 1 0 = too_many g h in
    let none-used : g.room - 0 ≡ g.room = omega arith in
    record {
      answer = sym (ap (λ (c : rules.Report). c.answer) e);
      place = sym (ap (λ (c : rules.Report). c.place) e);
      steps = sym (ap (λ (c : rules.Report). c.steps) e);
      used = sym (ap (λ (c : rules.Report). length c.bytes) e);
      events = sym (ap (λ (c : rules.Report). length c.events) e);
      output = o ∙ ap (λ (n : ℕ). replicate n 0) (sym none-used) ∙ sym (ap (λ (c : rules.Report). padded c.bytes g.room) e);
      records = published-held [] ws g.slots (omega arith) ∙ sym (ap (λ (c : rules.Report). held as_records c.events g.slots) e);
      cleared = k;
    }

-- ---- the call over words

staged_called : (g : Given) (n : ℕ) (r : Report) (out ev work rest : List ℕ)
    → words.Called g n r out ev work → Called g r out (published (ev ++ rest) r.events g.slots) work
staged_called g n r out ev work rest c =
    let es : List rules.Event = (call g).events in
    let more : List ℕ = replicate (n - length (words_of es)) 0 in
    let split : ev ++ rest ≡ words_of es ++ (more ++ rest) = ap (λ (l : List ℕ). l ++ rest) c.records ∙ append_assoc (words_of es) more rest in
    record {
      answer = c.answer;
      place = c.place;
      steps = c.steps;
      used = c.used;
      events = c.events;
      output = c.output;
      records =
          ap (λ (l : List ℕ). published l r.events g.slots) split
          ∙ ap (λ (k : ℕ). published (words_of es ++ (more ++ rest)) k g.slots) c.events
          ∙ published-held es (more ++ rest) g.slots (answered g).events-fit;
      cleared = c.cleared;
    }

-- so many records lent as words are so many records
pub staged-asked : (table text : List ℕ) (width limit room slots work n : ℕ) (rest : List ℕ) {r : Report} {out ev area : List ℕ} → n ≡ slots * event_words
    → words.Called (words.given table text width limit room n work) n r out ev area
    → Called (asked table text width limit room slots work) r out (published (ev ++ rest) r.events slots) area
staged-asked table text width limit room slots work n rest {r} {out} {ev} {area} h c =
    let g : Given = asked table text width limit room slots work in
    let lent : n / event_words ≡ slots = omega arith in
    let same : words.given table text width limit room n work ≡ g = ap (λ (k : ℕ). asked table text width limit room k work) lent in
    staged_called g n r out ev area rest (subst (λ (g : Given). words.Called g n r out ev area) same c)
