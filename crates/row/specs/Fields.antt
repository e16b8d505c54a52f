-- The bytes of a row: its fields in columns, between blanks.
use Rattle.std.specs.Prelude.{ℕ, ◌-◌, List, [], ◌∷◌, ◌++◌, take, drop, replicate}
use Rattle.buffer.specs.Parts.{index_of, characters}
use Rattle.results.specs.declared.Pallet.{Pallet}

-- what stands before the first `;`
abbrev pub field : List ℕ → List ℕ
field s = take (index_of 59 s) s

-- a field that ends in a column, and what it is measured in
unfoldable pub right : List ℕ → ℕ → List ℕ → List ℕ
right s width unit = replicate (width - index_of 59 s) 32 ++ field s ++ unit

-- the note in six columns, the force in four with " g" behind it, the pluck point in six with " mm" behind it
unfoldable pub fields : List ℕ → Pallet → List ℕ
fields line p =
    field line ++ replicate (6 - characters (field line)) 32
    ++ right (drop p.force line) 4 (32 ∷ 103 ∷ [])
    ++ right (drop p.pluck line) 6 (32 ∷ 109 ∷ 109 ∷ [])
