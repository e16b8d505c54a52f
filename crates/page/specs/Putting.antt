-- What the functions promise: the whole answer, by the rules' page, and that what was on the page before is kept.
use Rattle.std.specs.Prelude.{◌≡◌, ℕ, ◌/◌, List, length, take, leb, ltb, Option, Some, None}
use Rattle.choice.specs.Pick.{pick}
use Rattle.rules.specs.Call.{event_words}
use Rattle.rules.specs.Layout.{taken}
use Rattle.rules.specs.Layout as rules
use Rattle.page.specs.Reading.{events_of, page_of, Within, Before}
use Rattle.page.specs.declared.Page.{Page}

-- an answer by the rules' pages: the page with what was put on it, or there is no room
pub data Answer : Type 0 where
  on : rules.Page → Answer
  full : Answer

abbrev pub answer_of : Option Page → List ℕ → List ℕ → Answer
answer_of (Some p) out ev = on (page_of p out ev)
answer_of None out ev = full

abbrev pub PutWithin : Option Page → List ℕ → List ℕ → Type 0
PutWithin (Some p) out ev = Within p out ev
PutWithin None out ev = Unit {0}

-- Bytes go onto the page p: `grown` says which page that makes. It fits exactly if the room that it takes is at most the output's. The bytes
-- before are kept, whatever is answered.
pub record Written (p : Page) (out : List ℕ) (r : Option Page) (out' : List ℕ) (grown : rules.Page → rules.Page) : Type 0 where
  pub answer : (ev : List ℕ) → answer_of r out' ev ≡ pick (leb (taken (grown (page_of p out ev))) (length out)) (on (grown (page_of p out ev))) full
  pub within : (ev : List ℕ) → Within p out ev → PutWithin r out' ev
  pub kept : take p.used out' ≡ take p.used out

-- An event goes onto the page p. It fits exactly if a record is left. The events before are kept, whatever is answered.
pub record Noted (p : Page) (ev : List ℕ) (r : Option Page) (ev' : List ℕ) (grown : rules.Page → rules.Page) : Type 0 where
  pub answer : (out : List ℕ) → Within p out ev
      → answer_of r out ev' ≡ pick (ltb (length (page_of p out ev).events) (length ev / event_words)) (on (grown (page_of p out ev))) full
  pub within : (out : List ℕ) → Within p out ev → PutWithin r out ev'
  pub kept : events_of p.events ev' ≡ events_of p.events ev

-- the rules' page q with the column, and no more than the bytes and the events, of the page p
abbrev pub cut_to : Page → rules.Page → rules.Page
cut_to p q = record { column = p.column.0; out = take p.used q.out; events = take p.events q.events }

-- the page that was saved is put back: where p grew from it, it is cut out of p
pub record PutBack (p saved r : Page) : Type 0 where
  pub same : r ≡ saved
  pub answer : Before saved p → (out ev : List ℕ) → page_of r out ev ≡ cut_to saved (page_of p out ev)
