-- How a page of the code is read as the rules' page, over the output's bytes and the events' words.
use Rattle.std.specs.Prelude.{ℕ, zero, suc, ◌+◌, ◌*◌, ◌≤◌, List, [], ◌∷◌, ◌++◌, get_or, length, take}
use Rattle.rules.specs.Call.{event_words}
use Rattle.rules.specs.Layout.{Event}
use Rattle.rules.specs.Layout as rules
use Rattle.page.specs.declared.Page.{Page}

-- record n of the events' words
abbrev pub event_at : List ℕ → ℕ → Event
event_at ev n = record { offset = get_or ev (n * event_words) 0; mark = get_or ev (n * event_words + 1) 0; label = get_or ev (n * event_words + 2) 0 }

-- the first n records
unfoldable pub events_of : ℕ → List ℕ → List Event
events_of zero ev = []
events_of (suc n) ev = events_of n ev ++ (event_at ev n ∷ [])

abbrev pub page_of : Page → List ℕ → List ℕ → rules.Page
page_of p out ev = record { column = p.column.0; out = take p.used out; events = events_of p.events ev }

-- the bytes of room that it takes: `taken` of it, where it lies within the output (proofs/Pages `taken_is`)
abbrev pub takes : Page → ℕ
takes p = p.used

-- what is used of the buffers lies within them
pub record Within (p : Page) (out ev : List ℕ) : Type 0 where
  pub bytes : takes p ≤ length out
  pub events : p.events * event_words ≤ length ev

-- q has no more bytes and events than p: as a page has that p grew from
pub record Before (q p : Page) : Type 0 where
  pub bytes : q.used ≤ p.used
  pub events : q.events ≤ p.events
