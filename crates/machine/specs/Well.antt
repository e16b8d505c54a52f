-- What stays true from turn to turn: how high the entries stack, how far an indentation goes, and what saved counts are bounded by.
use Rattle.std.specs.Prelude.{ℕ, suc, ◌+◌, ◌*◌, ◌≤◌, ◌<◌, List, [], ◌∷◌, length}
use Rattle.rules.specs.Layout.{Limits, Page, taken}
use Rattle.machine.specs.Waiting.{Saved, takes, Entry, node, trial, closing}
use Rattle.machine.specs.Fit.{Item, item}

-- A number is below N by at least its height. An indentation starts at most at 65,536 and grows by at most 1,000 each time that the number
-- falls.
pub record Placed (N height n i : ℕ) : Type 0 where
  pub number : height + n < N
  pub indent : i + 1000 * suc n ≤ 65536 + 1000 * N

-- What a trial saved: its column is backed by the room that it takes, that by the room there is; its bytes and events are at most those there.
pub record Backed (room written noted : ℕ) (s : Saved) : Type 0 where
  pub column : s.column ≤ takes s
  pub fits : takes s ≤ room
  pub bytes : s.bytes ≤ written
  pub events : s.events ≤ noted

-- of N nodes and so much room, with so many bytes written and events noted
abbrev pub Stacked : ℕ → ℕ → ℕ → ℕ → List Entry → Type 0
Stacked N room written noted [] = Unit {0}
Stacked N room written noted (node n i m ∷ w) = Placed N (length w) n i × Stacked N room written noted w
Stacked N room written noted (trial b i m s ∷ w) =
    Placed N (length w) b i × Backed room written noted s × Stacked N room s.bytes s.events w
Stacked N room written noted (closing n l ∷ w) = (length w + n < N) × Stacked N room written noted w

-- the turns that what waits can still make: a node or the end of an annotation one, the end of a trial two
abbrev pub weight : List Entry → ℕ
weight [] = 0
weight (node n i m ∷ w) = suc (weight w)
weight (trial b i m s ∷ w) = suc (suc (weight w))
weight (closing n l ∷ w) = suc (weight w)

-- the column is backed by the room that the page takes, that by the room there is
pub record Well (L : Limits) (N : ℕ) (p : Page) (w : List Entry) : Type 0 where
  pub column : p.column ≤ taken p
  pub fits : taken p ≤ L.room
  pub room : L.room ≤ 65536
  pub stack : Stacked N L.room (length p.out) (length p.events) w

-- every waiting node is one of the first N
abbrev pub Nodes : ℕ → List Entry → Type 0
Nodes N [] = Unit {0}
Nodes N (node n i m ∷ w) = (n < N) × Nodes N w
Nodes N (trial b i m s ∷ w) = Nodes N w
Nodes N (closing n l ∷ w) = Nodes N w

-- the same for what a fit test is to walk, with its own height
abbrev pub FitStacked : ℕ → List Item → Type 0
FitStacked N [] = Unit {0}
FitStacked N (item n m ∷ is) = (length is + n < N) × FitStacked N is
