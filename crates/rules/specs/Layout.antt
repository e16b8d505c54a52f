-- The layout rules of document 01, over what a table unfolds to: what a run is given and how it ends, what is written on the page,
-- how trials and fit tests go on, the fit test, the layout of each kind, and the report. Sizes and validation are in Call.antt.
-- Assumes nothing.
use Rattle.std.specs.Prelude.{ℕ, ◌+◌, ◌-◌, Bool, true, false, ◌||◌, List, [], ◌∷◌, ◌++◌, length, replicate, leb, ltb, eqb}
use Rattle.table.specs.Node.{Way, adds, subtracts}
use Rattle.table.specs.Unfold.{Tree, nil, append, group, flat_alt, nest, hardline, text, annotated, union, align, fail}

-- what a run is given besides its table and text: the width, the step limit, the bytes of output and the event records that it may use
pub record Limits : Type 0 where
  pub width : ℕ
  pub limit : ℕ
  pub room : ℕ
  pub slots : ℕ

-- an offset, an open-or-close mark (1 or 0) and a label
pub record Event : Type 0 where
  pub offset : ℕ
  pub mark : ℕ
  pub label : ℕ

-- what a trial that is given up puts back: the column, the bytes and the events
pub record Page : Type 0 where
  pub column : ℕ
  pub out : List ℕ
  pub events : List Event

abbrev pub blank : Page
blank = record { column = 0; out = []; events = [] }

pub data Mode : Type 0 where
  flat broken : Mode

-- flat, or broken
abbrev pub mode_if : Bool → Mode
mode_if true = flat
mode_if false = broken

-- a waiting node with its indentation
pub record Entry : Type 0 where
  pub what : Tree
  pub ind : ℕ

-- What is due when the steps equal the limit: a Group met broken in layout, with its child, what waits and the column; or any other node, one in a
-- fit test too. The report names only its number; request 2026-01 asks for the rest.
pub data Due : Type 0 where
  broken_group : Tree → List Entry → ℕ → Due
  other : Due

-- what refuses a run: the steps equal the limit, bytes don't fit the output, an event doesn't fit
pub data Refusal : Type 0 where
  steps : Due → Refusal
  bytes events : Refusal

abbrev pub number : Refusal → ℕ
number (steps d) = 7
number bytes = 8
number events = 9

-- How laying a node ends, always with the steps taken so far.
-- `done`: with the page, and whether a Text laid, and not in a trial given up, ended past width.
-- `failed`: at a Fail that no trial inside the node took; it is the innermost trial's around it.
-- `refused`: the whole call ends, with the place.
pub data Outcome : Type 0 where
  done : Page → Bool → ℕ → Outcome
  failed : ℕ → Outcome
  refused : Refusal → ℕ → ℕ → Outcome

-- How a fit test ends, with the steps too: it says yes or no, or the steps equal the limit and a node is due.
pub data Fit : Type 0 where
  says : Bool → ℕ → Fit
  spent : ℕ → ℕ → Fit

-- ---- the page

-- the bytes of room that a page takes
abbrev pub taken : Page → ℕ
taken p = length p.out

-- a Text is written whole; the column grows by its columns
abbrev pub wrote : List ℕ → ℕ → Page → Page
wrote bs cols p = record { column = p.column + cols; out = p.out ++ bs; events = p.events }

-- byte 10 and blanks to an indentation; that becomes the column
abbrev pub fed : ℕ → Page → Page
fed i p = record { column = i; out = p.out ++ (10 ∷ replicate i 32); events = p.events }

-- one event more; its offset is the number of bytes before it
abbrev pub marked : ℕ → ℕ → Page → Page
marked mark label p =
    record { column = p.column; out = p.out; events = p.events ++ (record { offset = length p.out; mark = mark; label = label } ∷ []) }

-- ---- indentation

-- Nest adds, or subtracts stopping at 0
abbrev pub nested : Way → ℕ → ℕ → ℕ
nested adds k i = i + k
nested subtracts k i = i - k

-- the indentation of the next waiting node, else its own; ends of annotations and trials don't wait here, so they are looked past
abbrev pub next : List Entry → ℕ → ℕ
next [] i = i
next (w ∷ ws) i = w.ind

-- ---- one thing after another

-- what was laid before had a Text that ended past width, or what is laid now has
abbrev pub also : Bool → Outcome → Outcome
also past (done p more s) = done p (past || more) s
also past (failed s) = failed s
also past (refused r n s) = refused r n s

-- what is done goes on; a Fail or a refusal doesn't
abbrev pub and_then : Outcome → (Page → ℕ → Outcome) → Outcome
and_then (done p past s) f = also past (f p s)
and_then (failed s) f = failed s
and_then (refused r n s) f = refused r n s

-- A trial is given up at once at its Fail, and when its arm is done if a Text laid in it ended past width. Then the second arm stands in its
-- place, and the page, which it has from before the Union, is as before; only the steps stay. A refusal ends the whole call.
abbrev pub try : Outcome → (ℕ → Outcome) → Outcome
try (done p true s) second = second s
try (done p false s) second = done p false s
try (failed s) second = second s
try (refused r n s) second = refused r n s

-- a fit test chooses flat or broken for the child
abbrev pub chosen : Fit → (Mode → ℕ → Outcome) → Outcome
chosen (says true s) go = go flat s
chosen (says false s) go = go broken s
chosen (spent n s) go = refused (steps other) n s

module _ (L : Limits) where
  -- Each node visited, in layout or in a fit test, is one step. A node that is due when the steps equal the limit isn't visited.
  unfoldable pub visit : {R : Type 0} → R → ℕ → (ℕ → R) → R
  visit stop s go = elim (eqb s L.limit) [ true ↦ stop | false ↦ go (s + 1) ]

  -- ---- fit test

  -- a fit test's visit of the node n
  abbrev pub look : ℕ → ℕ → (ℕ → Fit) → Fit
  look n s go = visit (spent n s) s go

  -- The walk down a node in mode m from column c; `k` is what follows it. Append, Group, Nest, Align and Annotated are walked through; Union takes
  -- its second arm; FlatAlt goes by mode. A Text ending past width says no; equal to width goes on. Fail says no. Hardline says no while flat, yes after.
  unfoldable pub fit : Tree → Mode → (ℕ → ℕ → Fit) → ℕ → ℕ → Fit
  fit (nil n) m k c s = look n s (λ s. k c s)
  fit (append n a b) m k c s = look n s (λ s. fit a m (λ c s. fit b m k c s) c s)
  fit (group n a) m k c s = look n s (λ s. fit a m k c s)
  fit (flat_alt n a b) flat k c s = look n s (λ s. fit b flat k c s)
  fit (flat_alt n a b) broken k c s = look n s (λ s. fit a broken k c s)
  fit (nest n a d way) m k c s = look n s (λ s. fit a m k c s)
  fit (hardline n) flat k c s = look n s (λ s. says false s)
  fit (hardline n) broken k c s = look n s (λ s. says true s)
  fit (text n bs cols) m k c s = look n s (λ s. elim (leb (c + cols) L.width) [ true ↦ k (c + cols) s | false ↦ says false s ])
  fit (annotated n a l) m k c s = look n s (λ s. fit a m k c s)
  fit (union n a b) m k c s = look n s (λ s. fit b m k c s)
  fit (align n a) m k c s = look n s (λ s. fit a m k c s)
  fit (fail n) m k c s = look n s (λ s. says false s)

  -- When the group's child is done the waiting nodes follow in order, all read as broken. Nothing left says yes.
  unfoldable pub rest : List Entry → ℕ → ℕ → Fit
  rest [] c s = says true s
  rest (w ∷ ws) c s = fit w.what broken (rest ws) c s

  -- ---- layout

  -- layout's visit of the node n
  abbrev pub step : ℕ → ℕ → (ℕ → Outcome) → Outcome
  step n s go = visit (refused (steps other) n s) s go

  -- what a Text or a Hardline makes of the page fits whole or answers 8
  unfoldable pub put : Page → Bool → ℕ → Outcome
  put p past s = elim (leb (taken p) L.room) [ true ↦ done p past s | false ↦ refused bytes 0 s ]

  -- an event of the Annotated node n fits or answers 9
  unfoldable pub event : ℕ → ℕ → ℕ → Page → ℕ → Outcome
  event n mark label p s =
      elim (ltb (length p.events) L.slots) [ true ↦ done (marked mark label p) false s | false ↦ refused events n s ]

  -- Lays a node at indentation i in mode m, where ws wait, onto the page p after s steps.
  -- Append: second waits with the same indentation and mode; first goes on.
  -- Group: when broken, a fit test chooses flat or broken for the child; when flat, the child stays flat and nothing is tested.
  -- FlatAlt: its first when broken, its second when flat.
  -- Nest adds, or subtracts stopping at 0. Align sets the indentation to the column.
  -- Hardline, in either mode: byte 10 and blanks to the indentation of the next waiting node, else its own.
  -- Text is written whole; the column grows by its columns.
  -- Annotated opens, lays its child, closes when the child is done.
  -- Union lays its first arm as a trial, same mode and indentation; the second arm stands in its place if it is given up.
  unfoldable pub lay : Tree → ℕ → Mode → List Entry → Page → ℕ → Outcome
  lay (nil n) i m ws p s = step n s (λ s. done p false s)
  lay (append n a b) i m ws p s =
      step n s (λ s. and_then (lay a i m (record { what = b; ind = i } ∷ ws) p s) (λ p s. lay b i m ws p s))
  lay (group n a) i flat ws p s = step n s (λ s. lay a i flat ws p s)
  lay (group n a) i broken ws p s =
      visit (refused (steps (broken_group a ws p.column)) n s) s (λ s. chosen (fit a flat (rest ws) p.column s) (λ m s. lay a i m ws p s))
  lay (flat_alt n a b) i flat ws p s = step n s (λ s. lay b i flat ws p s)
  lay (flat_alt n a b) i broken ws p s = step n s (λ s. lay a i broken ws p s)
  lay (nest n a k way) i m ws p s = step n s (λ s. lay a (nested way k i) m ws p s)
  lay (hardline n) i m ws p s = step n s (λ s. put (fed (next ws i) p) false s)
  lay (text n bs cols) i m ws p s = step n s (λ s. put (wrote bs cols p) (ltb L.width (p.column + cols)) s)
  lay (annotated n a l) i m ws p s =
      step n s (λ s. and_then (event n 1 l p s) (λ p s. and_then (lay a i m ws p s) (λ p s. event n 0 l p s)))
  lay (union n a b) i m ws p s = step n s (λ s. try (lay a i m ws p s) (λ s. lay b i m ws p s))
  lay (align n a) i m ws p s = step n s (λ s. lay a p.column m ws p s)
  lay (fail n) i m ws p s = step n s (λ s. failed s)

-- ---- the report

-- a call's answer, its place and steps, and the used bytes and events
pub record Report : Type 0 where
  pub answer : ℕ
  pub place : ℕ
  pub steps : ℕ
  pub bytes : List ℕ
  pub events : List Event

-- laid out is 0; a Fail met outside every trial is 6, at place 0; used bytes and events are 0 on a refusal
abbrev pub report : Outcome → Report
report (done p past s) = record { answer = 0; place = 0; steps = s; bytes = p.out; events = p.events }
report (failed s) = record { answer = 6; place = 0; steps = s; bytes = []; events = [] }
report (refused r n s) = record { answer = number r; place = n; steps = s; bytes = []; events = [] }

-- Layout starts with column 0, and the root at indentation 0, broken.
unfoldable pub layout : Limits → Tree → Report
layout L t = report (lay L t 0 broken [] blank 0)
