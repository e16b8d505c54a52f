-- The open points of document 01 and the readings taken, as cases that antt computes: sizes and validation, steps and the order of refusals, layout.
-- Assumes nothing.
use Prim.Native.Nat.{ℕ}
use mathlib.Core.List.{List, [], ◌∷◌}
use lib.Dec.{T}
use lib.ListN.{replicate}
use Rattle.table.specs.Node.{adds, subtracts, nil, append, group, flat_alt, nest, hardline, text, annotated, union, fail}
use Rattle.rules.specs.Call.{Given}
use Rattle.rules.proofs.Case.{Case, at, on, lent, gives, refuses, every}
use Rattle.rules.proofs.Marked.{lined}

-- one Nil, over a text of so many bytes and with so many words of work
sized : ℕ → ℕ → Given
sized bytes words =
    record { table = 0 ∷ 0 ∷ 0 ∷ 0 ∷ []; text = replicate bytes 97; width = 42; limit = 1000000; room = 65536; slots = 4096; work = words }

sizes : List Case
unfolding at on lent gives refuses sized
sizes =
    -- each size at its bound
    gives (lent 100000000 65536 4096 (on (nil ∷ []) "" 65535)) 1 "" []
    ∷ gives (sized 65536 16384) 1 "" []
    -- 1: the table empty, no multiple of 4 words, above 4,096 words
    ∷ refuses (at [] "" 42) 1 0 0
    ∷ refuses (at (0 ∷ 0 ∷ 0 ∷ []) "" 42) 1 0 0
    ∷ refuses (at (replicate 4100 0) "" 42) 1 0 0
    -- 1: the text, the work area, the output, the events, the width, the step limit
    ∷ refuses (sized 65537 16384) 1 0 0
    ∷ refuses (sized 0 16383) 1 0 0
    ∷ refuses (lent 1000000 65537 4096 (on (nil ∷ []) "" 42)) 1 0 0
    ∷ refuses (lent 1000000 65536 4097 (on (nil ∷ []) "" 42)) 1 0 0
    ∷ refuses (on (nil ∷ []) "" 65536) 1 0 0
    ∷ refuses (lent 100000001 65536 4096 (on (nil ∷ []) "" 42)) 1 0 0
    -- 1 comes before a fault of the table
    ∷ refuses (on (nil ∷ append 1 0 ∷ []) "" 65536) 1 0 0
    -- an unused word (2) is tested before children (3), and the first node at fault is the place
    ∷ refuses (at (0 ∷ 0 ∷ 0 ∷ 0 ∷ 1 ∷ 1 ∷ 1 ∷ 1 ∷ 11 ∷ 0 ∷ 0 ∷ 0 ∷ []) "" 42) 2 1 0
    ∷ refuses (on (nil ∷ append 0 1 ∷ []) "" 42) 3 1 0
    ∷ refuses (on (nil ∷ nest 0 1001 adds ∷ nil ∷ []) "" 42) 3 1 0
    -- an empty Text at the end is sound, past it 4; a sum past 2^32 is 4
    ∷ gives (on (text 1 0 0 ∷ []) "a" 42) 1 "" []
    ∷ refuses (on (text 2 0 0 ∷ []) "a" 42) 4 0 0
    ∷ refuses (on (text 4294967295 2 2 ∷ []) "a" 42) 4 0 0
    -- an empty Text has no byte of 128 or more: its columns are 0
    ∷ refuses (on (text 0 0 1 ∷ []) "a" 42) 5 0 0
    ∷ []

order : List Case
unfolding on lent gives refuses lined
order =
    -- limit 0 names the root
    refuses (lent 0 65536 4096 (on (nil ∷ group 0 ∷ []) "" 42)) 7 1 0
    -- the last node may take the last step
    ∷ gives (lent 1 65536 4096 (on (text 0 1 1 ∷ []) "a" 42)) 1 "a" []
    -- a closing that doesn't fit comes before 7, at its Annotated node, and is no step
    ∷ refuses (lent 2 65536 1 (on (text 0 1 1 ∷ annotated 0 7 ∷ []) "a" 42)) 9 1 2
    -- a trial given up at its end makes its second arm due
    ∷ refuses (lent 2 65536 4096 (on (text 4 1 1 ∷ text 0 4 4 ∷ union 1 0 ∷ []) "longs" 3)) 7 0 2
    -- 7 in a fit test: the node due in it, also one that waits
    ∷ refuses (lent 3 65536 4096 (on lined " xyz" 4)) 7 1 3
    ∷ refuses (lent 4 65536 4096 (on lined " xyz" 4)) 7 4 4
    -- the visit that refuses is counted at 8 and 9
    ∷ refuses (lent 1000000 2 4096 (on (text 0 3 3 ∷ []) "abc" 42)) 8 0 1
    ∷ refuses (lent 1000000 65536 0 (on (nil ∷ annotated 0 7 ∷ []) "" 42)) 9 1 1
    -- room before width, and provisional bytes and events count towards room
    ∷ refuses (lent 1000000 3 4096 (on (text 0 4 4 ∷ text 4 1 1 ∷ union 0 1 ∷ []) "longs" 3)) 8 0 2
    ∷ refuses (lent 1000000 65536 1 (on (text 0 4 4 ∷ annotated 0 7 ∷ text 4 1 1 ∷ union 1 2 ∷ []) "longs" 3)) 9 1 3
    -- no room at all is lawful, and an empty Text needs none
    ∷ gives (lent 1000000 0 0 (on (text 0 0 0 ∷ []) "a" 42)) 1 "" []
    -- a Hardline asks for all its bytes at once
    ∷ refuses (lent 1000000 4 4096 (on (hardline ∷ nest 0 4 adds ∷ []) "" 42)) 8 0 2
    ∷ gives (lent 1000000 5 4096 (on (hardline ∷ nest 0 4 adds ∷ []) "" 42)) 2 "\n    " []
    ∷ []

rules : List Case
unfolding on lent gives refuses
rules =
    -- the next waiting node is looked for past the ends of an annotation and of a trial
    gives (on (hardline ∷ annotated 0 7 ∷ nest 1 4 adds ∷ text 0 1 1 ∷ append 2 3 ∷ []) "t" 42) 5 "\nt" (0 ∷ 1 ∷ 7 ∷ 1 ∷ 0 ∷ 7 ∷ [])
    ∷ gives (on (hardline ∷ fail ∷ union 0 1 ∷ nest 2 4 adds ∷ text 0 1 1 ∷ append 3 4 ∷ []) "t" 42) 5 "\nt" []
    -- equal to width stands, in a trial too; past width is given up
    ∷ gives (on (text 0 3 3 ∷ text 3 1 1 ∷ union 0 1 ∷ []) "abcx" 3) 2 "abc" []
    ∷ gives (on (text 0 3 3 ∷ text 3 1 1 ∷ union 0 1 ∷ []) "abcx" 2) 3 "x" []
    -- a Text of no bytes that stands past width ends past width, in a trial and in a fit test
    ∷ gives (on (text 0 4 4 ∷ text 4 0 0 ∷ text 4 1 1 ∷ union 1 2 ∷ append 0 3 ∷ []) "abcdx" 3) 5 "abcdx" []
    ∷ gives (on (text 0 4 4 ∷ text 4 1 1 ∷ text 4 0 0 ∷ flat_alt 1 2 ∷ group 3 ∷ append 0 4 ∷ []) "abcdx" 3) 7 "abcdx" []
    -- Nil and a Hardline's blanks don't
    ∷ gives (on (hardline ∷ nest 0 8 adds ∷ nil ∷ append 1 2 ∷ nest 3 8 adds ∷ text 0 1 1 ∷ union 4 5 ∷ []) "x" 3) 6 "\n        " []
    -- a second arm's Text counts for the trial around its Union
    ∷ gives (on (text 0 4 4 ∷ text 4 1 1 ∷ union 0 0 ∷ union 2 1 ∷ []) "longs" 3) 5 "s" []
    -- a Fail is its innermost trial's; what it left is put back, an open mark too
    ∷ gives (on (text 0 1 1 ∷ fail ∷ append 0 1 ∷ annotated 2 7 ∷ text 1 1 1 ∷ union 3 4 ∷ []) "ab" 42) 6 "b" []
    -- ends at one point close in nesting order
    ∷ gives (on (text 0 1 1 ∷ annotated 0 2 ∷ annotated 1 1 ∷ []) "a" 42) 3 "a" (0 ∷ 1 ∷ 1 ∷ 0 ∷ 1 ∷ 2 ∷ 1 ∷ 0 ∷ 2 ∷ 1 ∷ 0 ∷ 1 ∷ [])
    -- a Group met flat tests nothing
    ∷ gives (on (text 0 1 1 ∷ group 0 ∷ group 1 ∷ []) "a" 42) 5 "a" []
    -- Nest stops at 0
    ∷ gives (on (hardline ∷ nest 0 4 subtracts ∷ nest 1 2 adds ∷ []) "" 42) 3 "\n" []
    ∷ []

sizes-hold : T (every sizes)
unfolding sizes every
sizes-hold = tt

order_holds : T (every order)
unfolding order every
order_holds = tt

rules-hold : T (every rules)
unfolding rules every
rules-hold = tt
