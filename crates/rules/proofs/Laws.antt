-- Each law of demand 3 is an equation of meanings, and so are two documents that differ by one at one place.
-- Assumes nothing.
use Prim.Native.Nat.{ℕ, ◌+◌}
use native.Mathlib.Omega.{arith}
use mathlib.Core.Path.{◌≡◌, refl, sym, ap}
use mathlib.Core.Bool.{Bool, true, false, ◌||◌}
use Rattle.table.specs.Node.{Way, adds, subtracts}
use Rattle.rules.specs.Layout.{Page, Mode, flat, broken, mode_if, nested}
use Rattle.rules.specs.Law as D
use Rattle.table.specs.Document.{Doc}
use Rattle.rules.specs.Law.{Law, Within, Differ}
use Rattle.rules.proofs.Meaning.{Result, laid, fail-met, Meaning, also_r, then_r, try_r, by_mode, mean, nil', append', group', flat_alt', nest', annotated', union', align'}

then_assoc : (r : Result) (f g : Page → Result) → then_r (then_r r f) g ≡ then_r r (λ p. then_r (f p) g)
then_assoc fail-met f g = refl
then_assoc (laid p o) f g = go (f p)
  where
    step : (q : Bool) (r : Result) → also_r (o || q) r ≡ also_r o (also_r q r)
    step q fail-met = refl
    step q (laid p q') = ap (λ b. laid p b) (or_assoc o)
      where
        or_assoc : (o : Bool) → (o || q) || q' ≡ o || (q || q')
        or_assoc true = refl
        or_assoc false = refl

    go : (r : Result) → then_r (also_r o r) g ≡ also_r o (then_r r g)
    go fail-met = refl
    go (laid p' q) = step q (g p')

-- two meanings are equal that lay and read alike
same : (x y : Meaning) → ((w i : ℕ) (m : Mode) (k : ℕ → Bool) (nx : ℕ → ℕ) (p : Page) → x.lays w i m k nx p ≡ y.lays w i m k nx p) → ((w : ℕ) (m : Mode) (k : ℕ → Bool) (c : ℕ) → x.reads w m k c ≡ y.reads w m k c) → x ≡ y
same x y l r = λ j. record { lays = λ w i m k nx p. l w i m k nx p j; reads = λ w m k c. r w m k c j }

joins_regroup : (x y z : Meaning) → append' (append' x y) z ≡ append' x (append' y z)
joins_regroup x y z = same _ _ (λ w i m k nx p. then_assoc (x.lays w i m (y.reads w broken (z.reads w broken k)) (λ _. i) p) _ _) (λ w m k c. refl)

also-false : (r : Result) → also_r false r ≡ r
also-false (laid p q) = refl
also-false fail-met = refl

nil_drops : (x : Meaning) → append' nil' x ≡ x
nil_drops x = same _ _ (λ w i m k nx p. also-false (x.lays w i m k nx p)) (λ w m k c. refl)

mode_twice : (m : Mode) (b : Bool) → by_mode (by_mode m flat (mode_if b)) flat (mode_if b) ≡ by_mode m flat (mode_if b)
mode_twice flat b = refl
mode_twice broken true = refl
mode_twice broken false = refl

group_in-group : (x : Meaning) → group' (group' x) ≡ group' x
group_in-group x = same _ _ (λ w i m k nx p. ap (λ m. x.lays w i m k nx p) (mode_twice m (x.reads w flat k p.column))) (λ w m k c. refl)

nested_twice : (w : Way) (i j k : ℕ) → nested w j (nested w k i) ≡ nested w (j + k) i
nested_twice adds i j k = omega arith
nested_twice subtracts i j k = omega arith

nests-add : (x : Meaning) (j k : ℕ) (w : Way) → nest' (nest' x j w) k w ≡ nest' x (j + k) w
nests-add x j k way = same _ _ (λ w i m e nx p. ap (λ i. x.lays w i m e nx p) (nested_twice way i j k)) (λ w m k c. refl)

try_assoc : (r s t : Result) → try_r (try_r r s) t ≡ try_r r (try_r s t)
try_assoc (laid p true) s t = refl
try_assoc (laid p false) s t = refl
try_assoc fail-met s t = refl

unions_regroup : (x y z : Meaning) → union' (union' x y) z ≡ union' x (union' y z)
unions_regroup x y z = same _ _ (λ w i m k nx p. try_assoc (x.lays w i m k nx p) _ _) (λ w m k c. refl)

try_twins : (r : Result) → try_r r r ≡ r
try_twins (laid p true) = refl
try_twins (laid p false) = refl
try_twins fail-met = refl

union_twins : (x : Meaning) → union' x x ≡ x
union_twins x = same _ _ (λ w i m k nx p. try_twins (x.lays w i m k nx p)) (λ w m k c. refl)

mode_twins {ℓ} : {A : Type ℓ} (m : Mode) (a : A) → by_mode m a a ≡ a
mode_twins flat a = refl
mode_twins broken a = refl

flat_alt_twins : (x : Meaning) → flat_alt' x x ≡ x
flat_alt_twins x = same _ _ (λ w i m k nx p. mode_twins m (x.lays w i m k nx p)) (λ w m k c. mode_twins m (x.reads w m k c))

-- a law's two sides mean the same
law : {d e : Doc} → Law d e → mean d ≡ mean e
unfolding mean
law (D.joins_regroup a b c) = joins_regroup (mean a) (mean b) (mean c)
law (D.nil_drops a) = nil_drops (mean a)
law (D.group_in-group a) = group_in-group (mean a)
law (D.group-nest a k w) = refl
law (D.nests-add a j k w) = nests-add (mean a) j k w
law (D.nest-over-align a k w) = refl
law (D.align-twice a) = refl
law (D.unions_regroup a b c) = unions_regroup (mean a) (mean b) (mean c)
law (D.fail-drops a) = refl
law (D.union_twins a) = union_twins (mean a)
law (D.flat_alt_twins a) = flat_alt_twins (mean a)

-- what relates documents that mean the same does so at one place too
pub at_one-place : {R : Doc → Doc → Type 0} → ((d e : Doc) → R d e → mean d ≡ mean e) → {d e : Doc} → Within R d e → mean d ≡ mean e
unfolding mean
at_one-place f (D.here r) = f _ _ r
at_one-place f (D.in-append-first b r) = ap (λ x. append' x (mean b)) (at_one-place f r)
at_one-place f (D.in-append-second a r) = ap (append' (mean a)) (at_one-place f r)
at_one-place f (D.in_group r) = ap group' (at_one-place f r)
at_one-place f (D.in-flat_alt-broken b r) = ap (λ x. flat_alt' x (mean b)) (at_one-place f r)
at_one-place f (D.in-flat_alt-flat a r) = ap (flat_alt' (mean a)) (at_one-place f r)
at_one-place f (D.in-nest k w r) = ap (λ x. nest' x k w) (at_one-place f r)
at_one-place f (D.in-annotated l r) = ap (λ x. annotated' x l) (at_one-place f r)
at_one-place f (D.in-union-first b r) = ap (λ x. union' x (mean b)) (at_one-place f r)
at_one-place f (D.in-union-second a r) = ap (union' (mean a)) (at_one-place f r)
at_one-place f (D.in-align r) = ap align' (at_one-place f r)

-- so two documents that differ by one law at one place, either way round, mean the same
pub differ : {d e : Doc} → Differ d e → mean d ≡ mean e
differ (D.forth r) = at_one-place (λ d e. law) r
differ (D.back r) = sym (at_one-place (λ d e. law) r)
