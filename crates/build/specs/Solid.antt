-- How many nodes a constructor comes to, by the kinds of its operands: what a composed one counts before it adds anything.
use Rattle.std.specs.Prelude.{ℕ, suc, ◌||◌, List, [], ◌∷◌, eqb}
use Rattle.choice.specs.Pick.{pick}
use Rattle.table.specs.Node.{word}

-- how many of the nodes are no Nil
unfoldable pub solid : List ℕ → List ℕ → ℕ
solid table [] = 0
solid table (n ∷ ns) = pick (eqb (word table n 0) 0) (solid table ns) (suc (solid table ns))

-- how many nodes a Nest comes to
unfoldable pub nest_adds : List ℕ → ℕ → ℕ → ℕ
nest_adds table n amount = pick (eqb (word table n 0) 0 || eqb amount 0) 0 1

-- and an indent: by 0 a Nil and Align, else blanks, Append where the node is no Nil, Nest and Align
unfoldable pub indent_adds : List ℕ → ℕ → ℕ → ℕ
indent_adds table n by = pick (eqb by 0) 2 (pick (eqb (word table n 0) 0) 3 4)
