-- The columns of a sheet's texts, all by the width that the whole sheet is laid out at.
use Rattle.std.specs.Prelude.{ℕ, ◌-◌}
use Rattle.layout.specs.Called.{default_width}

-- the strip's columns, for a text that is not indented
abbrev pub width : ℕ
width = default_width

-- how far a text is indented that goes below its row or heading
abbrev pub below : ℕ
below = 4

-- the columns that leaves
abbrev pub wrapped : ℕ
wrapped = width - below
