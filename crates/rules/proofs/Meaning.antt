-- What a document means with no limit on steps and room: how it is laid, and how a fit test reads it.
-- Assumes nothing.
use Prim.Native.Nat.{ℕ, ◌+◌}
use mathlib.Core.Bool.{Bool, true, false, ◌||◌, ◌&&◌}
use mathlib.Core.List.{List}
use lib.Dec.{leb, ltb}
use Rattle.table.specs.Node.{Way}
use Rattle.rules.specs.Layout.{Page, Mode, flat, broken, mode_if, nested, fed, wrote, marked}
use Rattle.table.specs.Document.{Doc, nil, append, group, flat_alt, nest, hardline, text, annotated, union, align, fail}

-- the page and whether a Text laid ended past width; or a Fail was met
pub data Result : Type 0 where
  laid : Page → Bool → Result
  fail-met : Result

-- At a width. `lays` takes the indentation, the mode, what the fit test says of the waiting nodes at a column, the indentation of the next
-- waiting node (else the node's own, which it is given), and the page. `reads`, the fit test, takes the mode, what it says after the document,
-- and the column.
pub record Meaning : Type 0 where
  pub lays : ℕ → ℕ → Mode → (ℕ → Bool) → (ℕ → ℕ) → Page → Result
  pub reads : ℕ → Mode → (ℕ → Bool) → ℕ → Bool

abbrev pub also_r : Bool → Result → Result
also_r o (laid p q) = laid p (o || q)
also_r o fail-met = fail-met

abbrev pub then_r : Result → (Page → Result) → Result
then_r (laid p o) f = also_r o (f p)
then_r fail-met f = fail-met

abbrev pub try_r : Result → Result → Result
try_r (laid p true) r = r
try_r (laid p false) r = laid p false
try_r fail-met r = r

abbrev pub by_mode {ℓ} : {A : Type ℓ} → Mode → A → A → A
by_mode flat a b = a
by_mode broken a b = b

abbrev pub nil' : Meaning
nil' = record { lays = λ w i m k nx p. laid p false; reads = λ w m k c. k c }

abbrev pub append' : Meaning → Meaning → Meaning
append' x y =
    record {
      lays = λ w i m k nx p. then_r (x.lays w i m (y.reads w broken k) (λ _. i) p) (y.lays w i m k nx);
      reads = λ w m k. x.reads w m (y.reads w m k);
    }

abbrev pub group' : Meaning → Meaning
group' x =
    record {
      lays = λ w i m k nx p. x.lays w i (by_mode m flat (mode_if (x.reads w flat k p.column))) k nx p;
      reads = x.reads;
    }

abbrev pub flat_alt' : Meaning → Meaning → Meaning
flat_alt' x y =
    record { lays = λ w i m k nx p. by_mode m (y.lays w i m k nx p) (x.lays w i m k nx p); reads = λ w m k c. by_mode m (y.reads w m k c) (x.reads w m k c) }

abbrev pub nest' : Meaning → ℕ → Way → Meaning
nest' x d way = record { lays = λ w i m k nx p. x.lays w (nested way d i) m k nx p; reads = x.reads }

abbrev pub hardline' : Meaning
hardline' =
    record { lays = λ w i m k nx p. laid (fed (nx i) p) false; reads = λ w m k c. by_mode m false true }

abbrev pub text' : List ℕ → ℕ → Meaning
text' bytes cols =
    record {
      lays = λ w i m k nx p. laid (wrote bytes cols p) (ltb w (p.column + cols));
      reads = λ w m k c. leb (c + cols) w && k (c + cols);
    }

abbrev pub annotated' : Meaning → ℕ → Meaning
annotated' x l =
    record { lays = λ w i m k nx p. then_r (laid (marked 1 l p) false) (λ p. then_r (x.lays w i m k nx p) (λ p. laid (marked 0 l p) false)); reads = x.reads }

abbrev pub union' : Meaning → Meaning → Meaning
union' x y = record { lays = λ w i m k nx p. try_r (x.lays w i m k nx p) (y.lays w i m k nx p); reads = y.reads }

abbrev pub align' : Meaning → Meaning
align' x = record { lays = λ w i m k nx p. x.lays w p.column m k nx p; reads = x.reads }

abbrev pub fail' : Meaning
fail' = record { lays = λ w i m k nx p. fail-met; reads = λ w m k c. false }

unfoldable pub mean : Doc → Meaning
mean nil = nil'
mean (append a b) = append' (mean a) (mean b)
mean (group a) = group' (mean a)
mean (flat_alt a b) = flat_alt' (mean a) (mean b)
mean (nest a k way) = nest' (mean a) k way
mean hardline = hardline'
mean (text bytes cols) = text' bytes cols
mean (annotated a l) = annotated' (mean a) l
mean (union a b) = union' (mean a) (mean b)
mean (align a) = align' (mean a)
mean fail = fail'
