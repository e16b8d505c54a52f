-- What a constructor leaves: document 01's number for its answer, the answer, and the whole of table and text.
--     Made, Asked           what a constructor answers, and what it is told before
--     number, answer_of     document 01's number for each refusal, and for an answer
--     asked, asked_for      the order of refusals
--     outcome, refused, added, settled     a refusal, or what was built
--     made, first_made      all parts or nothing; a first part that asks for the whole
use Rattle.std.specs.Prelude.{Result, Ok, Err, ℕ, ◌+◌, ◌/◌, Bool, true, not, ◌&&◌, ◌||◌, List, length, eqb, ltb, leb}
use Rattle.choice.specs.Pick.{pick}
use Rattle.table.specs.declared.NodeNo.{NodeNo}
use Rattle.build.specs.declared.Counts.{Counts}
use Rattle.build.specs.declared.Why.{Why}
use Rattle.build.specs.declared.Why.TheVariants.{Sizes, Operand, Amount, Text, Bytes, Nodes}
use Rattle.build.specs.declared.Asks.{Asks}
use Rattle.build.specs.Draft.{Draft, Built, counted, over}

-- what a constructor answers: the counts with the new node, or why it refuses
abbrev pub Made : Type 0
Made = Result (Counts × NodeNo) Why

-- whether what is asked for is granted
abbrev pub Asked : Type 0
Asked = Result (Unit {0}) Why

-- document 01's number for each refusal
abbrev pub number : Why → ℕ
number Sizes = 1
number Operand = 11
number Amount = 3
number Text = 5
number Bytes = 12
number Nodes = 10

-- document 01's number for an answer: 0 with a node, else the refusal's
abbrev pub answer_of : Made → ℕ
answer_of (Ok (c, n)) = 0
answer_of (Err why) = number why

-- counts past the lent table or text; a table's last words that make no node don't count
abbrev pub past : Counts → ℕ → ℕ → Bool
past c words bytes = ltb (words / 4) c.nodes || ltb bytes c.bytes

-- adding nothing always fits
abbrev pub fits : ℕ → ℕ → ℕ → ℕ → Bool
fits before after limit lent = eqb before after || (leb after limit && leb after lent)

-- 1, 11, then 3 or 5, then 12, then 10: operands present, amount and text right, and counts afterwards
unfoldable pub asked : Counts → ℕ → ℕ → Bool → Bool → Bool → ℕ → ℕ → Asked
asked c words bytes present amount text nodes used =
    pick (past c words bytes) (Err Sizes)
    (pick (not present) (Err Operand)
    (pick (not amount) (Err Amount)
    (pick (not text) (Err Text)
    (pick (not (fits c.bytes used 65536 bytes)) (Err Bytes)
    (pick (not (fits c.nodes nodes 1024 (words / 4))) (Err Nodes)
    (Ok tt))))))

-- the same, by what is to be added
abbrev pub asked_for : Counts → ℕ → ℕ → Asks → Asked
asked_for c words bytes asks =
    asked c words bytes asks.present asks.amount asks.text (c.nodes + asks.nodes) (c.bytes + asks.bytes)

-- no text to be wrong
abbrev pub asks_for : Bool → Bool → ℕ → ℕ → Asks
asks_for present amount nodes bytes =
    record { present = present; amount = amount; text = true; nodes = nodes; bytes = bytes }

-- an answer that adds nothing, or the refusal
abbrev pub answered : Asked → Made → Made
answered (Ok u) m = m
answered (Err why) m = Err why

-- an answer with its number, and what table and text hold afterwards
pub record Outcome : Type 0 where
  pub answer : ℕ
  pub made : Made
  pub table : List ℕ
  pub text : List ℕ

abbrev pub outcome : Made → List ℕ → List ℕ → Outcome
outcome made table text = record { answer = answer_of made; made = made; table = table; text = text }

-- a refusal has its number and leaves table and text unchanged
abbrev pub refused : Why → List ℕ → List ℕ → Outcome
refused why table text = record { answer = number why; made = Err why; table = table; text = text }

-- an answer taken apart: what goes on from it, or the refusal handed on
abbrev pub onward : Made → List ℕ → List ℕ → (Counts → ℕ → Outcome) → Outcome
onward (Ok (c, n)) table text next = next c n.0
onward (Err why) table text next = refused why table text

-- what was built has number 0 and stands over the front of table and text
unfoldable pub added : Built → List ℕ → List ℕ → Outcome
added b table text =
    record {
      answer = 0;
      made = Ok (b.draft.counts, record { 0 = b.node });
      table = over b.draft.table table;
      text = over b.draft.text text;
    }

abbrev pub settled : Asked → Built → List ℕ → List ℕ → Outcome
settled (Ok u) b table text = added b table text
settled (Err why) b table text = refused why table text

-- all parts, or nothing
unfoldable pub made : Counts → List ℕ → List ℕ → Bool → Bool → Bool → (Draft → Built) → Outcome
made c table text present amount right parts =
    let b = parts (counted c table text) in
    settled (asked c (length table) (length text) present amount right b.draft.counts.nodes b.draft.counts.bytes) b table text

-- a first part, with which all of a whole is asked for
abbrev pub first_made : Counts → List ℕ → List ℕ → Asks → (Draft → Built) → Outcome
first_made c table text asks part =
    settled (asked_for c (length table) (length text) asks) (part (counted c table text)) table text
