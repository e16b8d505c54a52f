-- What is within tolerance: a force of 90 to 130 grams, and a pluck point of 0.8 to 1.6 millimetres.
use Rattle.std.specs.Prelude.{ℕ, Bool, ◌&&◌, leb}
use Rattle.choice.specs.Pick.{pick}

abbrev pub force_right : ℕ → Bool
force_right grams = leb 90 grams && leb grams 130

-- in tenths of a millimetre
abbrev pub pluck_right : ℕ → Bool
pluck_right tenths = leb 8 tenths && leb tenths 16

-- the label of a row's mark: 0 is no mark, 1 the force, 2 the pluck point, 3 both
unfoldable pub label_of : ℕ → ℕ → ℕ
label_of force pluck = pick (force_right force) (pick (pluck_right pluck) 0 2) (pick (pluck_right pluck) 1 3)
