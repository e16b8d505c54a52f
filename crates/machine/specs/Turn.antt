-- One turn of the engine: the top of what waits is visited or ended. And the run, turn after turn.
use Rattle.std.specs.Prelude.{ℕ, zero, suc, ◌+◌, ◌-◌, ◌*◌, Bool, true, false, ◌||◌, List, [], ◌∷◌, length, take, drop, leb, ltb}
use Rattle.choice.specs.Pick.{pick}
use Rattle.table.specs.Node.{Node, nil, append, group, flat_alt, nest, hardline, text, annotated, union, align, fail, node_at}
use Rattle.rules.specs.Layout.{Limits, Page, blank, Mode, flat, broken, Report, taken, wrote, fed, marked, nested}
use Rattle.machine.specs.Waiting.{Saved, save, Entry, node, trial, closing, back, next_indent}
use Rattle.machine.specs.Fit.{Verdict, fits, wide, due, item, reread, by_mode, fit}

-- what a run goes by
pub record Env : Type 0 where
  pub table : List ℕ
  pub str : List ℕ
  pub limits : Limits

-- Where a turn leads: on, with the page, the steps left, whether a Text ended past width in the innermost trial, and what waits;
-- or to a stop, with the answer, the place and the steps left.
pub data Turned : Type 0 where
  on : Page → ℕ → Bool → List Entry → Turned
  stop : ℕ → ℕ → ℕ → Turned

-- a page fits whole or answers 8
abbrev pub put : Limits → Page → ℕ → Bool → List Entry → Turned
put L p left past w = pick (leb (taken p) L.room) (on p left past w) (stop 8 0 left)

-- an event of node n fits or answers 9
abbrev pub event : Limits → ℕ → ℕ → ℕ → Page → ℕ → Bool → List Entry → Turned
event L n m l p left past w = pick (ltb (length p.events) L.slots) (on (marked m l p) left past w) (stop 9 n left)

-- a group's child goes on as the fit test says
abbrev pub decided : Verdict → ℕ → ℕ → Page → Bool → List Entry → Turned
decided (fits left) a i p past w = on p left past (node a i flat ∷ w)
decided (wide left) a i p past w = on p left past (node a i broken ∷ w)
decided (due n) a i p past w = stop 7 n 0

abbrev pub grouped : List ℕ → ℕ → Mode → ℕ → ℕ → Page → ℕ → Bool → List Entry → Turned
grouped table width broken a i p left past w = decided (fit table width left (item a flat ∷ reread w) p.column) a i p past w
grouped table width flat a i p left past w = on p left past (node a i flat ∷ w)

-- the innermost trial is given up, and its second arm stands in its place; outside every trial a Fail is answer 6
abbrev pub give_up : Page → ℕ → List Entry → Turned
give_up p left [] = stop 6 0 left
give_up p left (node n i m ∷ w) = give_up p left w
give_up p left (trial b i m s ∷ w) = on (back s p) left s.past (node b i m ∷ w)
give_up p left (closing n l ∷ w) = give_up p left w

-- node n, at indentation i in mode m, with `left` steps after it
abbrev pub visit : Env → ℕ → Node → ℕ → Mode → Page → ℕ → Bool → List Entry → Turned
visit E n nil i m p left past w = on p left past w
visit E n (append a b) i m p left past w = on p left past (node a i m ∷ node b i m ∷ w)
visit E n (group a) i m p left past w = grouped E.table E.limits.width m a i p left past w
visit E n (flat_alt a b) i m p left past w = on p left past (node (by_mode m a b) i m ∷ w)
visit E n (nest a k way) i m p left past w = on p left past (node a (nested way k i) m ∷ w)
visit E n hardline i m p left past w = put E.limits (fed (next_indent i w) p) left past w
visit E n (text o l cols) i m p left past w =
    put E.limits (wrote (take l (drop o E.str)) cols p) left (past || ltb E.limits.width (p.column + cols)) w
visit E n (annotated a l) i m p left past w = event E.limits n 1 l p left past (node a i m ∷ closing n l ∷ w)
visit E n (union a b) i m p left past w =
    on p left false (node a i m ∷ trial b i m (save p past) ∷ w)
visit E n (align a) i m p left past w = on p left past (node a p.column m ∷ w)
visit E n fail i m p left past w = give_up p left w

-- a trial ends: it is given up if a Text laid in it ended past width
abbrev pub end_trial : Bool → ℕ → ℕ → Mode → Saved → Page → ℕ → List Entry → Turned
end_trial true b i m s p left w = on (back s p) left s.past (node b i m ∷ w)
end_trial false b i m s p left w = on p left s.past w

-- a node is due: with no step left the answer is 7
abbrev pub due_node : Env → ℕ → ℕ → Mode → Page → ℕ → Bool → List Entry → Turned
due_node E n i m p zero past w = stop 7 n 0
due_node E n i m p (suc left) past w = visit E n (node_at E.table n) i m p left past w

unfoldable pub turn : Env → Page → ℕ → Bool → Entry → List Entry → Turned
turn E p left past (node n i m) w = due_node E n i m p left past w
turn E p left past (trial b i m s) w = end_trial past b i m s p left w
turn E p left past (closing n l) w = event E.limits n 0 l p left past w

-- ---- the run

abbrev pub laid : Env → Page → ℕ → Report
laid E p left = record { answer = 0; place = 0; steps = E.limits.limit - left; bytes = p.out; events = p.events }

abbrev pub ended : Env → ℕ → ℕ → ℕ → Report
ended E answer place left = record { answer = answer; place = place; steps = E.limits.limit - left; bytes = []; events = [] }

-- `turns` bounds the turns and is never used up: a step, with an end of a trial and its second arm, makes at most three
unfoldable pub run : Env → ℕ → Page → ℕ → Bool → List Entry → Report
run E zero p left past w = ended E 99 0 left
run E (suc turns) p left past [] = laid E p left
run E (suc turns) p left past (e ∷ w) =
    elim (turn E p left past e w) [ on p' left' past' w' ↦ run E turns p' left' past' w' | stop a n left' ↦ ended E a n left' ]

-- a whole layout from the root
unfoldable pub layout : Env → ℕ → Report
layout E root = run E (3 * E.limits.limit + 2) blank E.limits.limit false (node root 0 broken ∷ [])
