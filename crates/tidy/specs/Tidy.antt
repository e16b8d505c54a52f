-- Tidy lines: what a chest's results say, written one way. A line's first byte tells what it is, the rest is what it says; crate results writes such
-- lines of what somebody typed or exported, and the sheet is built of them alone.
--     =90 to 130 g, 0.8 to 1.6 mm     the tolerance, as the footer prints it; the first line, and no other
--     #Hauptwerk, C-Lade              a heading
--     -C;140;1.2;x                    a heading that is a pallet left out with #
--     0Dis;134;1.2;spring too strong  a pallet: its label, 0 to 3, then note, force, pluck point and remark
--                                     an empty line
-- Assumes nothing.
use Rattle.std.specs.Prelude.{ℕ, ◌+◌, ◌-◌, List, [], ◌∷◌, ◌++◌, map, take, drop, eqb}
use Rattle.choice.specs.Pick.{pick}
use Rattle.buffer.specs.Parts.{index_of, lines}

-- a pallet: the label of its mark (0 none, 1 the force is out of tolerance, 2 the pluck point, 3 both), and its fields as they are printed
pub record Pallet : Type 0 where
  pub label : ℕ
  pub note : List ℕ
  pub force : List ℕ
  pub pluck : List ℕ
  pub remark : List ℕ

pub data Says : Type 0 where
  nothing : Says
  heading : List ℕ → Says
  left_out : List ℕ → Says
  tolerance : List ℕ → Says
  pallet : Pallet → Says

-- what stands before the first `;`, and what stands behind it
abbrev pub field : List ℕ → List ℕ
field s = take (index_of 59 s) s

abbrev pub behind_field : List ℕ → List ℕ
behind_field s = drop (index_of 59 s + 1) s

-- three fields, and the rest is the remark
unfoldable pub pallet_of : ℕ → List ℕ → Pallet
pallet_of label s =
    record {
      label = label;
      note = field s;
      force = field (behind_field s);
      pluck = field (behind_field (behind_field s));
      remark = behind_field (behind_field (behind_field s));
    }

-- by its first byte
unfoldable pub says_of : List ℕ → Says
says_of [] = nothing
says_of (b ∷ s) =
    pick (eqb b 35) (heading s)
    (pick (eqb b 45) (left_out s)
    (pick (eqb b 61) (tolerance s)
    (pallet (pallet_of (b - 48) s))))

unfoldable pub all_say : List ℕ → List Says
all_say tidy = map says_of (lines tidy)

-- ---- how a line is written

unfoldable pub written : Says → List ℕ
written nothing = []
written (heading s) = 35 ∷ s
written (left_out s) = 45 ∷ s
written (tolerance s) = 61 ∷ s
written (pallet p) = (48 + p.label) ∷ p.note ++ (59 ∷ p.force) ++ (59 ∷ p.pluck) ++ (59 ∷ p.remark)

-- each line with its line feed
unfoldable pub all_written : List Says → List ℕ
all_written [] = []
all_written (l ∷ ls) = written l ++ (10 ∷ all_written ls)
