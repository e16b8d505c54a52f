-- The marked cases of document 01, proved together: one test that antt computes.
-- 01 gives the steps of cases 1 and 2; those of the others are the definitions' own.
-- Assumes nothing.
use Prim.Native.Nat.{ℕ}
use mathlib.Core.List.{List, [], ◌∷◌}
use lib.Dec.{T}
use Rattle.table.specs.Node.{adds, subtracts, Node, nil, append, group, flat_alt, nest, hardline, text, annotated, union, align, fail}
use Rattle.rules.proofs.Case.{Case, at, on, lent, gives, refuses, every}

-- table A, as 01 writes it
unfoldable pub table_a : List ℕ
table_a =
    6 ∷ 0 ∷ 2 ∷ 2
    ∷ 5 ∷ 0 ∷ 0 ∷ 0
    ∷ 6 ∷ 2 ∷ 1 ∷ 1
    ∷ 3 ∷ 1 ∷ 2 ∷ 0
    ∷ 6 ∷ 3 ∷ 2 ∷ 2
    ∷ 1 ∷ 3 ∷ 4 ∷ 0
    ∷ 1 ∷ 0 ∷ 5 ∷ 0
    ∷ 2 ∷ 6 ∷ 0 ∷ 0
    ∷ []

-- Group(line) + three bytes
unfoldable pub lined : List Node
lined = hardline ∷ text 0 1 1 ∷ flat_alt 0 1 ∷ group 2 ∷ text 1 3 3 ∷ append 3 4 ∷ []

unfoldable pub cases : List Case
unfolding table_a lined at on lent gives refuses
cases =
    -- 1. A, width 5
    gives (at table_a "ab cd" 5) 13 "ab cd" []
    -- 2. A, width 4; with limit 12
    ∷ gives (at table_a "ab cd" 4) 13 "ab\ncd" []
    ∷ refuses (lent 12 65536 4096 (at table_a "ab cd" 4)) 7 4 12
    -- 3. `abc` at width 2
    ∷ gives (on (text 0 3 3 ∷ []) "abc" 2) 1 "abc" []
    -- 4. Group(line) + `xyz`, width 4 and width 3
    ∷ gives (on lined " xyz" 4) 8 " xyz" []
    ∷ gives (on lined " xyz" 3) 8 "\nxyz" []
    -- 5. Nest 4 of Append(Hardline, Nil), then `t`; without the Nil
    ∷ gives (on (hardline ∷ nil ∷ append 0 1 ∷ nest 2 4 adds ∷ text 0 1 1 ∷ append 3 4 ∷ []) "t" 42) 6 "\n    t" []
    ∷ gives (on (hardline ∷ nest 0 4 adds ∷ text 0 1 1 ∷ append 1 2 ∷ []) "t" 42) 4 "\nt" []
    -- 6. Nest 4 of (Hardline + `t`); Nest 4 of Hardline, then Nest 4 of `t`
    ∷ gives (on (hardline ∷ text 0 1 1 ∷ append 0 1 ∷ nest 2 4 adds ∷ []) "t" 42) 4 "\n    t" []
    ∷ gives (on (hardline ∷ nest 0 4 adds ∷ text 0 1 1 ∷ nest 2 4 adds ∷ append 1 3 ∷ []) "t" 42) 5 "\nt" []
    -- 7. Nest 2 of Nest -4 of Nest 4 of (Hardline + `x`)
    ∷ gives (on (hardline ∷ text 0 1 1 ∷ append 0 1 ∷ nest 2 4 adds ∷ nest 3 4 subtracts ∷ nest 4 2 adds ∷ []) "x" 42) 6 "\n    x" []
    -- 8. `ab` + Align(`c` + Hardline + `d`)
    ∷ gives (on (text 0 2 2 ∷ text 2 1 1 ∷ hardline ∷ text 3 1 1 ∷ append 1 2 ∷ append 4 3 ∷ align 5 ∷ append 0 6 ∷ []) "abcd" 42) 8 "abc\n  d" []
    -- 9. Annotated 7 of Union(`long`, `s`), width 3
    ∷ gives (on (text 0 4 4 ∷ text 4 1 1 ∷ union 0 1 ∷ annotated 2 7 ∷ []) "longs" 3) 4 "s" (0 ∷ 1 ∷ 7 ∷ 1 ∷ 0 ∷ 7 ∷ [])
    -- 10. Union(`abcd` + Hardline, `x`) + `tail`, width 3
    ∷ gives (on (text 0 4 4 ∷ hardline ∷ append 0 1 ∷ text 4 1 1 ∷ union 2 3 ∷ text 5 4 4 ∷ append 4 5 ∷ []) "abcdxtail" 3) 7 "xtail" []
    -- 11. Group(Union(Hardline, `a`)), width 5
    ∷ gives (on (hardline ∷ text 0 1 1 ∷ union 0 1 ∷ group 2 ∷ []) "a" 5) 5 "\n" []
    -- 12. Fail; Union(Fail, `a`)
    ∷ refuses (on (fail ∷ []) "" 42) 6 0 1
    ∷ gives (on (fail ∷ text 0 1 1 ∷ union 0 1 ∷ []) "a" 42) 3 "a" []
    ∷ []

pub marked : T (every cases)
unfolding cases every
marked = tt
