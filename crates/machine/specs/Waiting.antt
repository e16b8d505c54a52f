-- What waits: nodes, and the ends of trials and of annotations. What a trial saves, and the page that is put back when it is given up. The waiting
-- nodes as the rules have them.
use Rattle.std.specs.Prelude.{ℕ, Bool, List, [], ◌∷◌, length, take}
use Rattle.table.specs.Unfold.{Tree}
use Rattle.rules.specs.Layout.{Mode, Page}
use Rattle.rules.specs.Layout as rules

-- what a trial saves: the page before the Union, by its column and how many bytes and events it had; and whether a Text had ended past width
pub record Saved : Type 0 where
  pub column : ℕ
  pub bytes : ℕ
  pub events : ℕ
  pub past : Bool

abbrev pub save : Page → Bool → Saved
save p past = record { column = p.column; bytes = length p.out; events = length p.events; past = past }

-- the bytes of room that the page saved takes, as `taken` says of a page
abbrev pub takes : Saved → ℕ
takes s = s.bytes

-- A waiting node: its number, indentation and mode. The end of a trial: its second arm likewise, and what it saved. The end of an annotation:
-- the Annotated node and its label, which the closing carries.
pub data Entry : Type 0 where
  node : ℕ → ℕ → Mode → Entry
  trial : ℕ → ℕ → Mode → Saved → Entry
  closing : ℕ → ℕ → Entry

-- the page as before the Union, when the trial is given up
abbrev pub back : Saved → Page → Page
back s p = record { column = s.column; out = take s.bytes p.out; events = take s.events p.events }

-- the indentation of the next waiting node, else one's own; ends are looked past
abbrev pub next_indent : ℕ → List Entry → ℕ
next_indent own [] = own
next_indent own (node n i m ∷ w) = i
next_indent own (trial x i m s ∷ w) = next_indent own w
next_indent own (closing n l ∷ w) = next_indent own w

-- the waiting nodes, where node n unfolds to `at n`; ends are looked past
unfoldable pub waiting : (ℕ → Tree) → List Entry → List rules.Entry
waiting at [] = []
waiting at (node n i m ∷ w) = record { what = at n; ind = i } ∷ waiting at w
waiting at (trial b i m a ∷ w) = waiting at w
waiting at (closing n l ∷ w) = waiting at w
