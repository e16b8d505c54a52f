-- The demands as theorems about every outcome that the promise of a call over words, `Called`, allows; and that it allows one only.
--     demand_1             an answer of 0 to 9; lengths kept; zero past the used part, on a refusal all; the work area zero
--     demand_2             answer, place, steps, bytes and events are those of the rules' definition of a call, for every input; and in its parts:
--     laid_out, past-five  within the sizes a valid table is run by the layout rules, and answers 0 or 6 to 9
--     faulty, oversized    another table answers 1 to 5 by its first fault; sizes out of bounds answer 1
--     demand_3             two calls that differ by one law hand back the same answer, used bytes and used events
--     sheet-is, label_is   the whole sheet and the row label are the layout at 42 columns and 1,000,000 steps
-- Returned has `unique`, and 1 and 3 for every form that events are lent in.
-- Assumes nothing.
use mathlib.Core.Path.{◌≡◌, refl, ap, ◌∙◌}
use Prim.Native.Nat.{ℕ, ◌*◌, ◌≤◌, ◌<◌}
use native.Mathlib.Omega.{arith}
use mathlib.Core.Bool.{Bool, true, false}
use mathlib.Core.List.{List, []}
use lib.ListN.{length}
use borrow.Author.Tests.{le-leb}
use Rattle.table.specs.Fault.{Fault, check}
use Rattle.table.specs.Valid.{Valid}
use Rattle.table.specs.Unfold.{Tree, tree, root}
use Rattle.table.proofs.Accept.{valid_if-zero, zero_if-valid}
use Rattle.rules.specs.Layout as rules
use Rattle.rules.specs.Call.{Given, buffers_right, limits, refusal, call, event_words, words_of}
use Rattle.rules.proofs.Answers.{answered}
use Rattle.rules.proofs.Cleared.{length-words}
use Rattle.layout.specs.Called.{given, as_words, Called, reported, default_width, label_width, default_steps}
use Rattle.layout.specs.Demands.{Demand1, Sizes, ByOneLaw, Unrefused, Demand3}
use Rattle.layout.specs.declared.Report.{Report}
use Rattle.layout.proofs.Words.{words-front, words_injective}
use Rattle.layout.proofs.Whole.{call_sizes, call-fault, call-run, bounded}
use Rattle.layout.proofs.Returned as returned

-- words are a form of events
pub words_lawful : returned.Lawful as_words
unfolding words_of
words_lawful = record { none = refl; extent = length-words }

-- a report of the rules is its numbers, bytes and events
ruled-is : (r r' : rules.Report) → r.answer ≡ r'.answer → r.place ≡ r'.place → r.steps ≡ r'.steps → r.bytes ≡ r'.bytes → r.events ≡ r'.events → r ≡ r'
ruled-is r r' a p s b e = λ i. record { answer = a i; place = p i; steps = s i; bytes = b i; events = e i }

-- a run answers 0 or 6 to 9
run-past-five : (x : rules.Outcome) → 0 < (rules.report x).answer → 6 ≤ (rules.report x).answer
run-past-five (rules.done p o s) z = absurd (omega arith)
run-past-five (rules.failed s) z = omega arith
run-past-five (rules.refused (rules.steps d) n s) z = omega arith
run-past-five (rules.refused rules.bytes n s) z = omega arith
run-past-five (rules.refused rules.events n s) z = omega arith

layout-past-five : (L : rules.Limits) (t : Tree) → 0 < (rules.layout L t).answer → 6 ≤ (rules.layout L t).answer
unfolding rules.layout
layout-past-five L t z = run-past-five (rules.lay L t 0 rules.broken [] rules.blank 0) z

-- ---- one call

module _ (table text : List ℕ) (width limit room size work : ℕ) (r : Report) (out noted area : List ℕ) (c : Called (given table text width limit room size work) size r out noted area) where
  abbrev g : Given
  g = given table text width limit room size work

  abbrev Sized : Type 0
  Sized = Sizes width limit room size work

  pub demand_1 : Demand1 as_words limit room size work r out noted area
  demand_1 = returned.demand_1 as_words words_lawful c (limits g) (answered g) refl (omega (arith, (answered g).events-fit))

  pub demand_2 : reported r out noted ≡ call g
  demand_2 =
      let long : r.events * event_words ≤ length noted = rw demand_1.records-length demand_1.events in
      let same-words = words-front r.events noted long ∙ returned.records-used as_words words_lawful c in
      ruled-is (reported r out noted) (call g) c.answer c.place c.steps (returned.bytes-used as_words words_lawful c) (words_injective _ _ same-words)

  -- ---- its parts

  within : Sized → buffers_right g ≡ true
  within s = rw (le-leb _ _ s.output, le-leb _ _ s.events, le-leb _ _ s.area, le-leb _ _ s.columns, le-leb _ _ s.steps)

  pub laid_out : Sized → Valid table text → reported r out noted ≡ rules.layout (limits g) (tree table text (root table))
  laid_out s v = demand_2 ∙ call-run g (within s) (ap (λ (f : Fault). f.answer) (zero_if-valid table text v))

  pub past-five : Sized → Valid table text → 0 < r.answer → 6 ≤ r.answer
  past-five s v z =
      let e : r.answer ≡ (rules.layout (limits g) (tree table text (root table))).answer = ap (λ (x : rules.Report). x.answer) (laid_out s v) in
      rw e (layout-past-five _ _ (rw e at z))

  pub faulty : Sized → (Valid table text → ⊥) → reported r out noted ≡ refusal (check table text).answer (check table text).place
  faulty s ne = demand_2 ∙ call-fault g (within s) (λ z. ne (valid_if-zero table text z))

  pub oversized : (Sized → ⊥) → reported r out noted ≡ refusal 1 0
  oversized ne = by (buffers_right g) refl
    where
      by : (b : Bool) → buffers_right g ≡ b → reported r out noted ≡ refusal 1 0
      by true e = let b = bounded g e in absurd (ne (record { output = b.room; events = b.slots; area = b.work; columns = b.width; steps = b.limit }))
      by false e = demand_2 ∙ call_sizes g e

-- ---- two calls

pub demand_3 : (g h : Given) {size size' : ℕ} {r r' : Report} {out out' noted noted' area area' : List ℕ}
    → Called g size r out noted area → Called h size' r' out' noted' area'
    → ByOneLaw g h → Unrefused r → Unrefused r'
    → Demand3 as_words r r' out out' noted noted'
demand_3 g h c d = returned.demand_3 as_words words_lawful c d g h refl refl

-- ---- the two routines that take no width

-- `sheet` promises `Called` at the defaults, `layout` at what it is given: at 42 columns and 1,000,000 steps they are one
pub sheet-is : (table text : List ℕ) (room size work : ℕ) {r r' : Report} {out out' noted noted' area area' : List ℕ}
    → Called (given table text default_width default_steps room size work) size r out noted area
    → Called (given table text 42 1000000 room size work) size r' out' noted' area'
    → (r ≡ r') × (out ≡ out') × (noted ≡ noted') × (area ≡ area')
sheet-is table text room size work c d = returned.unique c d

-- and `label` at its width
pub label_is : (table text : List ℕ) (room size work : ℕ) {r r' : Report} {out out' noted noted' area area' : List ℕ}
    → Called (given table text label_width default_steps room size work) size r out noted area
    → Called (given table text 42 1000000 room size work) size r' out' noted' area'
    → (r ≡ r') × (out ≡ out') × (noted ≡ noted') × (area ≡ area')
label_is table text room size work c d = returned.unique c d
