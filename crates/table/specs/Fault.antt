-- Answers 1 to 5: what is wrong with a table and its text, in document 01's order.
use Rattle.std.specs.Prelude.{ℕ, zero, suc, ◌+◌, ◌/◌, ◌%◌, Bool, not, ◌&&◌, ◌||◌, List, length, take, drop, eqb, ltb, leb}
use Rattle.choice.specs.Pick.{pick}
use Rattle.table.specs.Kinds.{kind_at}
use Rattle.table.specs.Node.{word}
use Rattle.buffer.specs.Utf8.{well_formed, ascii, no_feed}

-- an answer and its place; answer 0 for none
pub record Fault : Type 0 where
  pub answer : ℕ
  pub place : ℕ

abbrev pub fault : ℕ → ℕ → Fault
fault answer place = record { answer = answer; place = place }

abbrev pub none : Fault
none = fault 0 0

-- ---- one node, n, with the words k a b c, over the text bytes

-- words that the kind doesn't use are 0
abbrev pub unused_zero : ℕ → ℕ → ℕ → ℕ → Bool
unused_zero words a b c = (leb 1 words || eqb a 0) && (leb 2 words || eqb b 0) && (leb 3 words || eqb c 0)

-- a child's number is below its parent's
abbrev pub children_below : ℕ → ℕ → ℕ → ℕ → Bool
children_below n children a b = (leb children 0 || ltb a n) && (leb children 1 || ltb b n)

-- amount 0 to 1,000; 0 adds, 1 subtracts
abbrev pub nest_in_range : ℕ → ℕ → ℕ → Bool
nest_in_range k b c = not (eqb k 4) || (leb b 1000 && leb c 1)

-- a Text's range lies in the text bytes
abbrev pub range_inside : List ℕ → ℕ → ℕ → ℕ → Bool
range_inside text k a b = not (eqb k 6) || leb (a + b) (length text)

-- all bytes below 128: columns equal length; otherwise well-formed, and columns at most length
abbrev pub columns_fit : List ℕ → ℕ → Bool
columns_fit bytes c = pick (ascii bytes) (eqb c (length bytes)) (well_formed bytes && leb c (length bytes))

-- the same, and no byte 10
unfoldable pub columns_right : List ℕ → ℕ → Bool
columns_right bytes c = no_feed bytes && columns_fit bytes c

abbrev pub text_right : List ℕ → ℕ → ℕ → ℕ → ℕ → Bool
text_right text k a b c = not (eqb k 6) || columns_right (take b (drop a text)) c

-- 0, or the first of 2, 3, 4, 5
unfoldable pub fault_of : List ℕ → ℕ → ℕ → ℕ → ℕ → ℕ → ℕ
fault_of text n k a b c =
    pick (ltb k 11 && unused_zero (kind_at k).words a b c)
    (pick (children_below n (kind_at k).children a b && nest_in_range k b c)
    (pick (range_inside text k a b)
    (pick (text_right text k a b c) 0 5)
    4)
    3)
    2

unfoldable pub fault_at : List ℕ → List ℕ → ℕ → ℕ
fault_at table text n = fault_of text n (word table n 0) (word table n 1) (word table n 2) (word table n 3)

-- ---- the whole table

-- what stands, else the answer a at node n
abbrev pub or_else : Fault → ℕ → ℕ → Fault
or_else f n a = pick (eqb f.answer 0) (pick (eqb a 0) none (fault a n)) f

-- the first fault of the nodes 0 to n - 1, unreachable ones too
unfoldable pub first_fault : List ℕ → List ℕ → ℕ → Fault
first_fault table text zero = none
first_fault table text (suc n) = or_else (first_fault table text n) n (fault_at table text n)

-- words of the table and bytes of the text
abbrev pub sizes_right : ℕ → ℕ → Bool
sizes_right words bytes = not (eqb words 0) && eqb (words % 4) 0 && leb words 4096 && leb bytes 65536

-- 1 comes first, then nodes from 0 up
unfoldable pub check : List ℕ → List ℕ → Fault
check table text =
    pick (sizes_right (length table) (length text)) (first_fault table text (length table / 4)) (fault 1 0)
