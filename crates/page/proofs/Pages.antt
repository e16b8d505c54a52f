-- A page of the code and the rules' page, over plain variables:
--     taken_is                     the room that a page takes
--     written_on                   bytes that were put behind those used
--     noted-full, noted-on         an event with no record left for it, and one that was stored
--     on-says, full-says           what an answer says of the test and of the page
--     noted-counts                 the counts of a page with one event more
--     before-kept                  a page reads as before where the bytes and events before p are kept and p grew from it
--     put_back                     a page that p grew from is cut out of p
-- Assumes nothing.
use mathlib.Core.Path.{◌≡◌, refl, sym, ap, ◌∙◌}
use Prim.Native.Nat.{ℕ, suc, ◌+◌, ◌*◌, ◌/◌, ◌≤◌, ◌<◌}
use native.Mathlib.Omega.{arith}
use mathlib.Core.Bool.{Bool, true, false}
use mathlib.Core.List.{List, ◌∷◌, ◌++◌}
use Rattle.std.specs.Prelude.{Option, Some, None}
use lib.ListN.{length, take, replicate, length-append, length-replicate, length-set}
use lib.Seq.{length-take-le, take-take, take-append-le}
use lib.Dec.{ltb}
use borrow.Author.Tests.{le-leb, lt-ltb, le-ltb}
use Rattle.choice.specs.Pick.{pick}
use Rattle.buffer.specs.Run as run
use Rattle.buffer.proofs.Put.{take_put}
use Rattle.rules.specs.Call.{event_words}
use Rattle.rules.specs.Layout.{taken, marked}
use Rattle.rules.specs.Layout as rules
use Rattle.page.specs.Reading.{events_of, page_of, takes, Within, Before}
use Rattle.page.specs.Putting.{on, full, answer_of, Written, Noted, cut_to}
use Rattle.page.specs.declared.Page.{Page}
use Rattle.page.proofs.Events.{length-events, events-front, events-kept, events-more, stored}

pub taken_is : (p : Page) (out ev : List ℕ) → takes p ≤ length out → taken (page_of p out ev) ≡ takes p
taken_is p out ev fits = length-take-le p.used out fits

-- ---- bytes

-- the rules' page with bytes added, at a column by the page before: a Text's and a Hardline's
abbrev added : (rules.Page → ℕ) → List ℕ → rules.Page → rules.Page
added column bs q = record { column = column q; out = q.out ++ bs; events = q.events }

-- n bytes go onto the page p
module _ (p : Page) (out bs : List ℕ) (n : ℕ) (column : rules.Page → ℕ) (size : length bs ≡ n) (fits : p.used ≤ length out) where
  taken-added : (ev : List ℕ) → taken (added column bs (page_of p out ev)) ≡ p.used + n
  taken-added ev = length-append (take p.used out) bs ∙ rw (length-take-le p.used out fits, size)

  -- k is the column and u the bytes used afterwards
  pub written_on : (out' : List ℕ) (k u : ℕ) → p.used + n ≤ length out → take (p.used + n) out' ≡ take p.used out ++ bs → length out' ≡ length out
      → ((ev : List ℕ) → k ≡ column (page_of p out ev)) → u ≡ p.used + n
      → Written p out (Some (record { column = record { 0 = k }; used = u; events = p.events })) out' (added column bs)
  written_on out' k u enough e long ek eu =
      let t : take u out' ≡ take p.used out ++ bs = rw eu e in
      let front : length (take p.used out) ≡ p.used = length-take-le p.used out fits in
      record {
        answer = λ ev. rw (t, ek ev) (sym (rw (taken-added ev, le-leb (p.used + n) (length out) enough)));
        within = λ ev in_p. record { bytes = omega (arith, eu, long); events = in_p.events };
        kept = sym (take-take p.used (p.used + n) out' (omega arith))
            ∙ ap (take p.used) e
            ∙ take-append-le p.used (take p.used out) bs (omega arith)
            ∙ take-take p.used p.used out (omega arith);
      }

-- byte 10 and i blanks
pub line-size : (i : ℕ) → length {A = ℕ} (10 ∷ replicate i 32) ≡ suc i
line-size i = ap suc (length-replicate i 32)

pub line-put : (out out' : List ℕ) (at i : ℕ) → at + suc i ≤ length out → out' ≡ run.put out at (10 ∷ replicate i 32)
    → take (at + suc i) out' ≡ take at out ++ (10 ∷ replicate i 32)
line-put out out' at i fits e = ap (take (at + suc i)) e ∙ take_put out at (10 ∷ replicate i 32) (suc i) (line-size i) fits

-- ---- events

module _ (p : Page) (ev : List ℕ) (mark label : ℕ) where
  pub noted-full : length ev / event_words ≤ p.events → Noted p ev None ev (marked mark label)
  noted-full none =
      record {
        answer = λ out in_p. sym (rw (length-events p.events ev, le-ltb p.events (length ev / event_words) none));
        within = λ out in_p. tt;
        kept = refl;
      }

  pub noted-on : p.events * event_words + event_words ≤ length ev
      → Noted p ev (Some (record { column = p.column; used = p.used; events = p.events + 1 })) (stored ev (p.events * event_words) p.used mark label) (marked mark label)
  noted-on one_left =
      let fits : p.events < length ev / event_words = omega arith in
      record {
        answer = λ out in_p.
            rw (events-more ev p.events p.used mark label one_left, length-events p.events ev, lt-ltb p.events (length ev / event_words) fits, taken_is p out ev in_p.bytes);
        within = λ out in_p. record { bytes = in_p.bytes; events = simp length-set (omega arith) };
        kept = events-kept ev p.events p.used mark label one_left;
      }

-- ---- what an answer says

pub on-says : {p q : rules.Page} (fits : Bool) → on p ≡ pick fits (on q) full → (fits ≡ true) × (p ≡ q)
on-says true e = (refl, cc)
on-says false e = let z : ◌≡◌ {A = ℕ} 0 1 = cc in absurd (omega arith)

pub full-says : (q : rules.Page) (fits : Bool) → full ≡ pick fits (on q) full → fits ≡ false
full-says q true e = let z : ◌≡◌ {A = ℕ} 0 1 = cc in absurd (omega arith)
full-says q false e = refl

module _ {p : Page} {ev ev' : List ℕ} {r : Option Page} {grown : rules.Page → rules.Page} (n : Noted p ev r ev' grown) (out : List ℕ) (in_p : Within p out ev) where
  pub noted-full-says : r ≡ None → ltb (length (page_of p out ev).events) (length ev / event_words) ≡ false
  noted-full-says e = full-says _ _ (sym (ap (λ (x : Option Page). answer_of x out ev') e) ∙ n.answer out in_p)

  pub noted-on-says : (q : Page) → r ≡ Some q
      → (ltb (length (page_of p out ev).events) (length ev / event_words) ≡ true) × (page_of q out ev' ≡ grown (page_of p out ev))
  noted-on-says q e = on-says _ (sym (ap (λ (x : Option Page). answer_of x out ev') e) ∙ n.answer out in_p)

-- what an event counts
pub noted-counts : {p q : Page} {ev ev' : List ℕ} {mark label : ℕ} → Noted p ev (Some q) ev' (marked mark label) → p.events * event_words ≤ length ev
    → (q.used ≡ p.used) × (q.events ≡ p.events + 1) × (q.events * event_words ≤ length ev')
noted-counts {p} {q} {ev} {ev'} n enough =
    let out : List ℕ = replicate p.used 0 in
    let in_p : Within p out ev = record { bytes = simp length-replicate (omega arith); events = enough } in
    let in-q = n.within out in_p in
    let said = (noted-on-says n out in_p q refl).1 in
    let bytes = sym (taken_is q out ev' in-q.bytes) ∙ ap taken said ∙ taken_is p out ev in_p.bytes in
    let events = sym (length-events q.events ev') ∙ ap (λ (x : rules.Page). length x.events) said in
    (bytes, events ∙ length-append (events_of p.events ev) _ ∙ ap (λ (k : ℕ). k + 1) (length-events p.events ev), in-q.events)

-- ---- a page from before

-- p grew from q: over buffers that keep what is before p, q reads as it did
pub before-kept : (q p : Page) (out ev out' ev' : List ℕ) → Before q p
    → take p.used out' ≡ take p.used out → events_of p.events ev' ≡ events_of p.events ev
    → page_of q out' ev' ≡ page_of q out ev
before-kept q p out ev out' ev' b eb ee =
    let bytes : take q.used out' ≡ take q.used out =
    sym (take-take q.used p.used out' b.bytes) ∙ ap (take q.used) eb ∙ take-take q.used p.used out b.bytes in
    let events : events_of q.events ev' ≡ events_of q.events ev =
    sym (events-front p.events q.events ev' b.events) ∙ ap (take q.events) ee ∙ events-front p.events q.events ev b.events in
    rw (bytes, events)

pub put_back : (p q : Page) (out ev : List ℕ) → Before q p → page_of q out ev ≡ cut_to q (page_of p out ev)
put_back p q out ev b = rw (take-take q.used p.used out b.bytes, events-front p.events q.events ev b.events)
