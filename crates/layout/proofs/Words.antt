-- The first n event records, as words, are the front of the slice; and records are known by their words.
-- Assumes nothing.
use mathlib.Core.Path.{◌≡◌, refl, sym, ap, ◌∙◌}
use Prim.Native.Nat.{ℕ, zero, suc, ◌+◌, ◌*◌, ◌≤◌}
use native.Mathlib.Omega.{arith}
use native.Mathlib.Numerals.{add-one, add-two}
use mathlib.Core.List.{List, [], ◌∷◌, ◌++◌, append_assoc}
use lib.ListN.{get_or, length, take, drop}
use lib.Seq.{take-suc}
use Rattle.rules.specs.Layout.{Event}
use Rattle.rules.specs.Call.{words_of, event_words}
use Rattle.page.specs.Reading.{event_at, events_of}

words_append : (es fs : List Event) → words_of (es ++ fs) ≡ words_of es ++ words_of fs
unfolding words_of
words_append [] fs = refl
words_append (e ∷ es) fs = ap (λ (l : List ℕ). e.offset ∷ e.mark ∷ e.label ∷ l) (words_append es fs)

-- the words of one event more: a line for each field
take-event : (ev : List ℕ) (k : ℕ) → k + event_words ≤ length ev → take (k + event_words) ev ≡ take k ev ++ (get_or ev k 0 ∷ get_or ev (k + 1) 0 ∷ get_or ev (k + 2) 0 ∷ [])
take-event ev k h =
    let offset : take (suc k) ev ≡ take k ev ++ (get_or ev k 0 ∷ []) = take-suc ev k 0 (omega arith) in
    let mark : take (suc (suc k)) ev ≡ take (suc k) ev ++ (get_or ev (suc k) 0 ∷ []) = take-suc ev (suc k) 0 (omega arith) in
    let label : take (suc (suc (suc k))) ev ≡ take (suc (suc k)) ev ++ (get_or ev (suc (suc k)) 0 ∷ []) = take-suc ev (suc (suc k)) 0 (omega arith) in
    let all : k + event_words ≡ suc (suc (suc k)) = omega arith in
    rw (all, label, mark, offset, add-one, add-two) (simp append_assoc)

pub words-front : (n : ℕ) (ev : List ℕ) → n * event_words ≤ length ev → words_of (events_of n ev) ≡ take (n * event_words) ev
unfolding words_of events_of
words-front zero ev h = refl
words-front (suc n) ev h =
    let more : suc n * event_words ≡ n * event_words + event_words = omega arith in
    words_append (events_of n ev) (event_at ev n ∷ []) ∙ rw (words-front n ev (omega arith), more) (sym (take-event ev (n * event_words) (omega arith)))

-- what was noted is known by its words
pub words_injective : (es fs : List Event) → words_of es ≡ words_of fs → es ≡ fs
unfolding words_of
words_injective [] [] h = refl
words_injective [] (f ∷ fs) h = absurd (omega (arith, ap length h))
words_injective (e ∷ es) [] h = absurd (omega (arith, ap length h))
words_injective (e ∷ es) (f ∷ fs) h =
    let offset : e.offset ≡ f.offset = ap (λ (l : List ℕ). get_or l 0 0) h in
    let mark : e.mark ≡ f.mark = ap (λ (l : List ℕ). get_or l 1 0) h in
    let label : e.label ≡ f.label = ap (λ (l : List ℕ). get_or l 2 0) h in
    let others : es ≡ fs = words_injective es fs (ap (λ (l : List ℕ). drop event_words l) h) in
    λ i. record { offset = offset i; mark = mark i; label = label i } ∷ others i
