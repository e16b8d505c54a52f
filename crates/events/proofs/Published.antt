-- The records published from the words of events are those events, and no event past them.
--     records_alike, records_first    records by their number
--     event-past, event_first         the words of one event in front of others: past them are the others, and the first record is that event
--     published-held                  all the records of a slice
-- Assumes nothing.
use mathlib.Core.Path.{◌≡◌, refl, sym, ap, ◌∙◌}
use mathlib.Core.List.{List, [], ◌∷◌, ◌++◌}
use Prim.Native.Nat.{ℕ, zero, suc, ◌+◌, ◌-◌, ◌*◌, ◌/◌, ◌≤◌}
use native.Mathlib.Omega.{arith}
use native.Mathlib.Nat.{not-suc-le-zero, le_of_suc-le-suc}
use borrow.Author.Tests.{lt-ltb, le-ltb}
use lib.Dec.{ltb, leb-suc-suc}
use lib.ListN.{length, get_or, replicate}
use lib.Seq.{get_or-append-add}
use Rattle.rules.specs.Layout as rules
use Rattle.rules.specs.Call.{event_words, words_of}
use Rattle.layout.specs.Called.{held}
use Rattle.events.specs.declared.Event.{Event}
use Rattle.events.specs.Records.{none, event_at, record_at, records, published}
use Rattle.events.specs.Called.{record_of, records_of, as_records}
use Rattle.events.proofs.Filled.{records-same}

-- ---- by number

records_alike : {A : Type 0} (f g : ℕ → A) → ((k : ℕ) → f k ≡ g k) → (m : ℕ) → records f m ≡ records g m
unfolding records
records_alike f g same zero = refl
records_alike f g same (suc m) = ap (λ (l : List _). l ++ (f m ∷ [])) (records_alike f g same m) ∙ ap (λ (x : _). records g m ++ (x ∷ [])) (same m)

records_first : {A : Type 0} (f : ℕ → A) (m : ℕ) → records f (suc m) ≡ f 0 ∷ records (λ (k : ℕ). f (suc k)) m
unfolding records
records_first f zero = refl
records_first f (suc m) = ap (λ (l : List _). l ++ (f (suc m) ∷ [])) (records_first f m)

-- ---- by words: an event's, and in front of what others

abbrev of : rules.Event → List ℕ → List ℕ
of e w = e.offset ∷ e.mark ∷ e.label ∷ w

-- past an event's words
word-past : (e : rules.Event) (w : List ℕ) (k j : ℕ) → get_or (of e w) (suc k * event_words + j) 0 ≡ get_or w (k * event_words + j) 0
word-past e w k j =
    let past : suc k * event_words + j ≡ event_words + (k * event_words + j) = omega arith in
    ap (λ (i : ℕ). get_or (of e w) i 0) past ∙ get_or-append-add (of e []) w (k * event_words + j) 0

-- past an event there are the others
event-past : (e : rules.Event) (w : List ℕ) (n k : ℕ) → record_at (of e w) (suc n) (suc k) ≡ record_at w n k
unfolding record_at event_at
event-past e w n k =
    let all : length (of e w) / event_words ≡ suc (length w / event_words) = omega arith in
    let counted : ltb (suc k) (suc n) ≡ ltb k n = leb-suc-suc (suc k) n in
    let lent : ltb (suc k) (length (of e w) / event_words) ≡ ltb k (length w / event_words) = ap (ltb (suc k)) all ∙ leb-suc-suc (suc k) (length w / event_words) in
    let place : suc k * event_words ≡ suc k * event_words + 0 = omega arith in
    let place' : k * event_words + 0 ≡ k * event_words = omega arith in
    let first : get_or (of e w) (suc k * event_words) 0 ≡ get_or w (k * event_words) 0 =
    ap (λ (i : ℕ). get_or (of e w) i 0) place ∙ word-past e w k 0 ∙ ap (λ (i : ℕ). get_or w i 0) place' in
    simp (counted, lent, first, word-past e w k)

event_first : (e : rules.Event) (w : List ℕ) (n : ℕ) → record_at (of e w) (suc n) 0 ≡ record_of e
unfolding record_at event_at
event_first e w n = simp (lt-ltb 0 (suc n) (omega arith), lt-ltb 0 (length (of e w) / event_words) (omega arith))

none_at : (w : List ℕ) (k : ℕ) → record_at w 0 k ≡ none
unfolding record_at
none_at w k = simp (le-ltb k 0 (omega arith))

pub published-held : (es : List rules.Event) (more : List ℕ) (m : ℕ) → length es ≤ m → published (words_of es ++ more) (length es) m ≡ held as_records es m
unfolding words_of records_of
published-held [] more m h =
    let e : m - 0 ≡ m = omega arith in
    records_alike (record_at more 0) (λ (_ : ℕ). none) (none_at more) m ∙ records-same none m ∙ ap (λ (k : ℕ). replicate k none) (sym e)
published-held (e ∷ es) more zero h = absurd (not-suc-le-zero h)
published-held (e ∷ es) more (suc m) h =
    let w : List ℕ = words_of es ++ more in
    let n : ℕ = length es in
    let left : suc m - suc (length (records_of es)) ≡ m - length (records_of es) = omega arith in
    let others : records (λ (j : ℕ). record_at (of e w) (suc n) (suc j)) m ≡ held as_records es m =
    records_alike _ (record_at w n) (event-past e w n) m ∙ published-held es more m (le_of_suc-le-suc h) in
    records_first (record_at (of e w) (suc n)) m
    ∙ ap (λ (x : Event). x ∷ records (λ (j : ℕ). record_at (of e w) (suc n) (suc j)) m) (event_first e w n)
    ∙ ap (λ (l : List Event). record_of e ∷ l) others
    ∙ ap (λ (j : ℕ). record_of e ∷ (records_of es ++ replicate j none)) (sym left)
