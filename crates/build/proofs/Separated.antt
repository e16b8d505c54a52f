-- A separator between each two of a list: `intersperse`, from what is asked to the loop's turns.
-- Assumes nothing.
use Prim.Native.Nat.{ℕ, suc, ◌+◌, ◌-◌, ◌*◌, ◌≤◌, ◌<◌}
use native.Mathlib.Omega.{arith}
use native.Mathlib.Numerals.{add-one}
use native.Mathlib.Nat.{suc-mul}
use mathlib.Core.Path.{◌≡◌, refl, ◌∙◌}
use mathlib.Core.Bool.{Bool, true, false, ◌&&◌}
use mathlib.Core.List.{List, [], ◌∷◌}
use lib.ListN.{length, get_or, take, drop, drop_of_length-le}
use lib.Seq.{drop-cons}
use lib.Dec.{eqb}
use borrow.Author.Tests.{ltb-true}
use Rattle.choice.specs.Pick.{pick}
use Rattle.table.specs.Node.{word}
use Rattle.choice.proofs.Tests.{and-true}
use Rattle.build.specs.declared.Counts.{Counts}
use Rattle.std.specs.Prelude.{Ok}
use Rattle.build.specs.Draft.{counted}
use Rattle.build.specs.Parts.{nil, separated, intersperse}
use Rattle.build.specs.Solid.{solid}
use Rattle.build.specs.Outcome.{Made, Asked, asked, answered, outcome, onward, made}
use Rattle.build.specs.Constructors.{has, has_all, append_made, intersperse_made}
use Rattle.build.proofs.Joins.{Below, below_of, join_all, join-on}
use Rattle.build.proofs.Concats.{join-made}

-- 0 for a Nil, else 1
abbrev one : List ℕ → ℕ → ℕ
one table n = solid table (n ∷ [])

solid-cons : (table : List ℕ) (n : ℕ) (ns : List ℕ) → solid table (n ∷ ns) ≡ one table n + solid table ns
unfolding solid
solid-cons table n ns = by (eqb (word table n 0) 0)
  where
    by : (q : Bool) → pick q (solid table ns) (suc (solid table ns)) ≡ pick q 0 1 + solid table ns
    by true = omega arith
    by false = omega arith

solid-separated : (table : List ℕ) (n : ℕ) (ns : List ℕ) → solid table (separated n ns) ≡ solid table ns + length ns * one table n
unfolding separated
solid-separated table n [] = unfold solid in omega arith
solid-separated table n (m ∷ ns) =
    let e = solid-cons table n (m ∷ separated n ns) in
    let f = solid-cons table m (separated n ns) in
    let g = solid-cons table m ns in
    let h = suc-mul (length ns) (one table n) in
    let i = solid-separated table n ns in
    omega arith

-- the sum can't wrap
solid_few : (table ns : List ℕ) → solid table ns ≤ length ns
unfolding solid
solid_few table [] = omega arith
solid_few table (n ∷ ns) = by (eqb (word table n 0) 0) (solid_few table ns)
  where
    by : (q : Bool) → solid table ns ≤ length ns → pick q (solid table ns) (suc (solid table ns)) ≤ suc (length ns)
    by true h = omega arith
    by false h = omega arith

pub solid_bound : (table : List ℕ) (n : ℕ) (ns : List ℕ) (k : ℕ) → solid table ns + k * solid table (n ∷ []) ≤ length ns + k
unfolding solid
solid_bound table n ns k = by (eqb (word table n 0) 0) (solid_few table ns)
  where
    by : (q : Bool) → solid table ns ≤ length ns → solid table ns + k * pick q 0 1 ≤ length ns + k
    by true h = omega arith
    by false h = omega arith

pub below-separated : {N : ℕ} (n : ℕ) (ns : List ℕ) → n < N → Below N ns → Below N (separated n ns)
unfolding separated
below-separated n [] h b = tt
below-separated n (m ∷ ns) h b = (h, (b.0, below-separated n ns h b.1))

-- the nodes and their separators
solid-all : (table : List ℕ) (n first : ℕ) (rest : List ℕ)
    → solid table (first ∷ separated n rest) ≡ solid table (first ∷ rest) + (length (first ∷ rest) - 1) * solid table (n ∷ [])
solid-all table n first rest =
    let e = solid-cons table first (separated n rest) in
    let f = solid-separated table n rest in
    let g = solid-cons table first rest in
    let k : length (first ∷ rest) - 1 ≡ length rest = omega arith in
    rw k (omega arith)

module _ (c : Counts) (table text : List ℕ) {ns : List ℕ} {first : ℕ} {rest : List ℕ} (is : ns ≡ first ∷ rest) (n : ℕ) where
  abbrev intersperse-asked : ℕ → Asked
  intersperse-asked all = asked c (length table) (length text) (has c n && has_all c ns) true true (c.nodes + (all - 1)) (c.bytes + 0)

  operands : has c n && has_all c (first ∷ rest) ≡ true → Below c.nodes (first ∷ separated n rest)
  operands e =
      let p = and-true (has c n) (has_all c (first ∷ rest)) e in
      let b = below_of c (first ∷ rest) p.1 in
      (b.0, below-separated n rest (ltb-true n c.nodes p.0) b.1)

  pub intersperse-made : {m : Made}
      → m ≡ answered (intersperse-asked (solid (take (c.nodes * 4) table) ns + (length ns - 1) * solid (take (c.nodes * 4) table) (n ∷ []))) (Ok (c, record { 0 = first }))
      → join_all m table text (separated n rest) ≡ intersperse_made c table text ns n
  unfolding counted intersperse
  intersperse-made e =
      rw is
      (join-made c table text (has c n && has_all c (first ∷ rest)) (λ s. intersperse s (first ∷ rest) n) first (separated n rest) refl operands
      (rw solid-all (rw is at e)))

-- one turn of the loop: the separator, then the next node
pub intersperse-turn : (m₁ m₂ : Made) (table₁ table₂ text : List ℕ) {m₃ : Made} {table₃ : List ℕ} (n : ℕ) (ns : List ℕ) (i : ℕ) → i < length ns
    → outcome m₂ table₂ text ≡ onward m₁ table₁ text (λ c b. append_made c table₁ text b n)
    → outcome m₃ table₃ text ≡ onward m₂ table₂ text (λ c b. append_made c table₂ text b (get_or ns i 0))
    → join_all m₃ table₃ text (separated n (drop (i + 1) ns)) ≡ join_all m₁ table₁ text (separated n (drop i ns))
unfolding separated
intersperse-turn m₁ m₂ table₁ table₂ text n ns i h o₁ o₂ =
    rw (drop-cons ns i 0 h)
    (rw add-one (join-on m₂ table₂ text (get_or ns i 0) (separated n (drop (suc i) ns)) o₂ ∙ join-on m₁ table₁ text n (get_or ns i 0 ∷ separated n (drop (suc i) ns)) o₁))

-- of none one Nil, the separator an operand all the same
pub intersperse-none : (c : Counts) (table text : List ℕ) (n : ℕ) (ns : List ℕ) → length ns ≡ 0
    → made c table text (has c n && has_all c ns) true true nil ≡ intersperse_made c table text ns n
unfolding intersperse
intersperse-none c table text n [] e = refl
intersperse-none c table text n (m ∷ ns) e = absurd (omega arith)

-- nothing is left
pub intersperse-end : {m : Made} {table text : List ℕ} (n : ℕ) (ns : List ℕ) (i : ℕ) → length ns ≤ i
    → outcome m table text ≡ join_all m table text (separated n (drop i ns))
unfolding join_all separated
intersperse-end n ns i h = rw (drop_of_length-le ns h) refl
