-- The work area read as a list of what waits, the top first; what a push to the fit test and a search promise.
use Rattle.std.specs.Prelude.{◌≡◌, ℕ, suc, zero, ◌+◌, ◌*◌, ◌≤◌, ◌<◌, Bool, true, false, Option, Some, None, List, [], ◌∷◌, get_or, eqb}
use Rattle.choice.specs.Pick.{pick}
use Rattle.rules.specs.Layout.{Mode, flat, broken}
use Rattle.machine.specs.Waiting.{Saved, Entry, node, trial, closing}
use Rattle.machine.specs.Fit.{Item, item}
use Rattle.waiting.specs.Area.{entry_words, saved_words, saved_from, fit_from, number_at, indent_at, mode_at, tag_at, tag_in, tag_word, saved_words_at}
use Rattle.waiting.specs.declared.Due.{Due}
use Rattle.waiting.specs.declared.Tag.{Tag}
use Rattle.waiting.specs.declared.Tag.TheVariants.{Node, Trial, Closing}
use Rattle.waiting.specs.declared.Saved.{Saved as SavedWords}

abbrev pub mode_of : ℕ → Mode
mode_of zero = broken
mode_of (suc m) = flat

abbrev pub flag_of : ℕ → Bool
flag_of zero = false
flag_of (suc o) = true

-- a node that is due, as what is on top
abbrev pub top : Due → Entry
top due = node due.node.0 due.indent.0 (mode_of due.mode.0)

-- what a trial saved
abbrev pub saved_of : SavedWords → Saved
saved_of v = record { column = v.page.column.0; bytes = v.page.used; events = v.page.events; past = flag_of v.past }

-- an entry by its tag
abbrev pub entry_of : Tag → ℕ → ℕ → ℕ → Saved → Entry
entry_of Node n i m s = node n i (mode_of m)
entry_of Trial n i m s = trial n i (mode_of m) s
entry_of Closing n i m s = closing n i

-- what the trial that ends at height d saved
abbrev pub saved_at : List ℕ → ℕ → Saved
saved_at w d = saved_of (saved_words_at w d)

-- the entry at height d
abbrev pub entry_at : List ℕ → ℕ → Entry
entry_at w d = entry_of (tag_in (tag_at w d)) (number_at w d) (indent_at w d) (mode_at w d) (saved_at w d)

-- the d entries, the top first
abbrev pub stack_of : ℕ → List ℕ → List Entry
stack_of zero w = []
stack_of (suc d) w = entry_at w d ∷ stack_of d w

-- the k nodes that the fit test is to walk, the top first
abbrev pub items_of : ℕ → ℕ → List ℕ → List Item
items_of m zero w = []
items_of m (suc k) w = item (get_or w (fit_from + k) 0) (mode_of m) ∷ items_of m k w

-- two areas have the same first d entries
pub record Same (d : ℕ) (w w' : List ℕ) : Type 0 where
  pub entries : (i : ℕ) → i < d * entry_words → get_or w' i 0 ≡ get_or w i 0
  pub saved : (i : ℕ) → i < d * saved_words → get_or w' (saved_from + i) 0 ≡ get_or w (saved_from + i) 0

-- one node more to walk, and every entry as it was
pub record FitPushed (w : List ℕ) (k n : ℕ) (w' : List ℕ) : Type 0 where
  pub same : Same 1024 w w'
  pub items : (m : ℕ) → items_of m (k + 1) w' ≡ item n (mode_of m) ∷ items_of m k w

abbrev pub tag_of : Entry → ℕ
tag_of (node n i m) = 0
tag_of (trial b i m s) = 1
tag_of (closing n l) = 2

-- what waits from the nearest entry with this tag on
unfoldable pub from : ℕ → List Entry → List Entry
from tag [] = []
from tag (e ∷ w) = pick (eqb (tag_of e) tag) (e ∷ w) (from tag w)

-- how many entries there are up to the one at this height, and with it; none where there is no such height
abbrev pub reached : Option ℕ → ℕ
reached None = 0
reached (Some h) = suc h

-- r is the height of the nearest entry below d with this tag
pub record Nearest (w : List ℕ) (d : ℕ) (tag : Tag) (r : Option ℕ) : Type 0 where
  pub within : reached r ≤ d
  pub found : from (tag_word tag) (stack_of d w) ≡ stack_of (reached r) w
  pub tagged : (h : ℕ) → r ≡ Some h → tag_in (tag_at w h) ≡ tag
