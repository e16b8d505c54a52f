-- Validation's answer and what document 01 asks, both ways:
--     right_of, of_right       a node has no fault, and it is as 01 asks
--     clean_of, of_clean       the first N nodes have no fault, and each of them has none
--     first-zero, first_next, first-here   the first fault, node by node
--     check_sizes, check-nodes 1 comes first, then the nodes
--     valid_if-zero, zero_if-valid, valid_iff-zero   `check` answers 0, and the table is valid; both ways
-- Assumes nothing.
use Prim.Native.Nat.{ℕ, zero, suc, ◌+◌, ◌/◌, ◌%◌, ◌≤◌, ◌<◌}
use native.Mathlib.Omega.{arith}
use native.Mathlib.Nat.{not-suc-le-zero}
use native.Mathlib.Decide.{dec_lt}
use mathlib.Core.Path.{◌≡◌, refl, sym, ap, ◌∙◌}
use mathlib.Core.Logic.{◌↔◌}
use mathlib.Core.Bool.{Bool, true, false, not, ◌&&◌, ◌||◌, true≢false}
use mathlib.Core.List.{List}
use lib.ListN.{length, take, drop, length-take, length-drop}
use lib.Dec.{eqb, ltb, leb}
use borrow.Author.Tests.{ltb-true, leb-true, eqb-true, eqb-false, not-true, not-false, lt-ltb, le-leb, lt-leb, leb-false, eq-eqb, ne_eqb}
use Rattle.choice.specs.Pick.{pick}
use Rattle.table.specs.Kinds.{kind_at}
use Rattle.buffer.specs.Utf8.{well_formed, ascii, no_feed}
use Rattle.table.specs.Fault.{Fault, fault, none, unused_zero, children_below, nest_in_range, columns_right, fault_of, fault_at, or_else, first_fault, sizes_right, check}
use Rattle.table.specs.Valid.{NodeRight, Valid}
use Rattle.choice.proofs.Tests.{and-true, true-and, or-true, true-or, passed, passes}
use Rattle.buffer.proofs.Octets.{ascii_well}

-- ---- a Text's bytes and columns

-- a Text's range has its length
pub part_length : (text : List ℕ) (a b : ℕ) → a + b ≤ length text → length (take b (drop a text)) ≡ b
part_length text a b h = simp (length-take, length-drop) (omega arith)

columns_of : (bs : List ℕ) (c b : ℕ) → length bs ≡ b → columns_right bs c ≡ true → (no_feed bs ≡ true) × (well_formed bs ≡ true) × (ascii bs ≡ true → c ≡ b) × (c ≤ b)
unfolding columns_right
columns_of bs c b l e =
    let p = and-true (no_feed bs) _ e in
    let q = go (ascii bs) refl p.1 in
    (p.0, q.0, q.1, q.2)
  where
    go : (q : Bool) → ascii bs ≡ q → pick q (eqb c (length bs)) (well_formed bs && leb c (length bs)) ≡ true → (well_formed bs ≡ true) × (ascii bs ≡ true → c ≡ b) × (c ≤ b)
    go true q e = let s : c ≡ b = eqb-true c (length bs) e ∙ l in (ascii_well bs q, λ x. s, omega arith)
    go false q e =
        let p = and-true (well_formed bs) (leb c (length bs)) e in
        let s : c ≤ length bs = leb-true c (length bs) p.1 in
        (p.0, λ x. absurd (true≢false (sym x ∙ q)), omega arith)

of-columns : (bs : List ℕ) (c b : ℕ) → length bs ≡ b → no_feed bs ≡ true → well_formed bs ≡ true → (ascii bs ≡ true → c ≡ b) → c ≤ b → columns_right bs c ≡ true
unfolding columns_right
of-columns bs c b l u w f le = true-and _ _ u (go (ascii bs) refl)
  where
    go : (q : Bool) → ascii bs ≡ q → pick q (eqb c (length bs)) (well_formed bs && leb c (length bs)) ≡ true
    go true q = eq-eqb c (length bs) (f q ∙ sym l)
    go false q = true-and _ _ w (le-leb c (length bs) (omega arith))

-- ---- one node

not-zero : (k : ℕ) → suc k ≡ 0 → ⊥
not-zero k e = omega arith

module _ (text : List ℕ) (n k a b c : ℕ) where
  -- at a kind, its own test counts
  at-kind : (j : ℕ) (q : Bool) → not (eqb k j) || q ≡ true → k ≡ j → q ≡ true
  at-kind j q e h = or-true (not (eqb k j)) q e (ap not (eq-eqb k j h))

  kind_at_lem : (j : ℕ) (q : Bool) → (k ≡ j → q ≡ true) → not (eqb k j) || q ≡ true
  kind_at_lem j q f = true-or (not (eqb k j)) q (λ e. f (eqb-true k j (not-false (eqb k j) e)))

  -- no fault: the node is as document 01 asks
  pub right_of : fault_of text n k a b c ≡ 0 → NodeRight text n k a b c
  unfolding fault_of
  right_of e =
      let w = (kind_at k).words in
      let h = (kind_at k).children in
      let p2 = passed _ _ _ (not-zero 1) e in
      let p3 = passed _ _ _ (not-zero 2) p2.1 in
      let p4 = passed _ _ _ (not-zero 3) p3.1 in
      let p5 = passed _ _ _ (not-zero 4) p4.1 in
      let k2 = and-true (ltb k 11) (unused_zero w a b c) p2.0 in
      let u3 = and-true ((leb 1 w || eqb a 0) && (leb 2 w || eqb b 0)) (leb 3 w || eqb c 0) k2.1 in
      let u2 = and-true (leb 1 w || eqb a 0) (leb 2 w || eqb b 0) u3.0 in
      let k3 = and-true (children_below n h a b) (nest_in_range k b c) p3.0 in
      let c3 = and-true (leb h 0 || ltb a n) (leb h 1 || ltb b n) k3.0 in
      record {
        known = ltb-true k 11 k2.0;
        unused-a = λ l. eqb-true a 0 (or-true _ _ u2.0 (lt-leb 1 w l));
        unused-b = λ l. eqb-true b 0 (or-true _ _ u2.1 (lt-leb 2 w l));
        unused-c = λ l. eqb-true c 0 (or-true _ _ u3.1 (lt-leb 3 w l));
        first-child = λ l. ltb-true a n (or-true _ _ c3.0 (lt-leb h 0 l));
        second-child = λ l. ltb-true b n (or-true _ _ c3.1 (lt-leb h 1 l));
        nest = λ s. let q = and-true (leb b 1000) (leb c 1) (at-kind 4 _ k3.1 s) in record { amount = leb-true b 1000 q.0; way = leb-true c 1 q.1 };
        text = λ s.
            let i = leb-true (a + b) (length text) (at-kind 6 _ p4.0 s) in
            let q = columns_of (take b (drop a text)) c b (part_length text a b i) (at-kind 6 _ p5.0 s) in
            record { inside = i; unfed = q.0; utf8 = q.1; below128 = q.2; columns = q.3 };
      }

  -- as document 01 asks: no fault
  pub of_right : NodeRight text n k a b c → fault_of text n k a b c ≡ 0
  unfolding fault_of
  of_right r =
      let w = (kind_at k).words in
      let h = (kind_at k).children in
      passes _ _ 2
      (true-and _ _ (lt-ltb k 11 r.known)
      (true-and _ _
      (true-and _ _ (true-or _ _ (λ f. eq-eqb a 0 (r.unused-a (leb-false 1 w f)))) (true-or _ _ (λ f. eq-eqb b 0 (r.unused-b (leb-false 2 w f)))))
      (true-or _ _ (λ f. eq-eqb c 0 (r.unused-c (leb-false 3 w f))))))
      (passes _ _ 3
      (true-and _ _
      (true-and _ _ (true-or _ _ (λ f. lt-ltb a n (r.first-child (leb-false h 0 f)))) (true-or _ _ (λ f. lt-ltb b n (r.second-child (leb-false h 1 f)))))
      (kind_at_lem 4 _ (λ s. true-and _ _ (le-leb b 1000 (r.nest s).amount) (le-leb c 1 (r.nest s).way))))
      (passes _ _ 4 (kind_at_lem 6 _ (λ s. le-leb (a + b) (length text) (r.text s).inside))
      (passes _ _ 5
      (kind_at_lem 6 _ (λ s. let t = r.text s in of-columns (take b (drop a text)) c b (part_length text a b t.inside) t.unfed t.utf8 t.below128 t.columns))
      refl)))

-- ---- the first fault

-- nothing stands and nothing is added
or_else_of : (f : Fault) (n a : ℕ) → (or_else f n a).answer ≡ 0 → (f.answer ≡ 0) × (a ≡ 0)
or_else_of f n a e = go (eqb f.answer 0) refl e
  where
    added : (q : Bool) → eqb a 0 ≡ q → (pick q none (fault a n)).answer ≡ 0 → a ≡ 0
    added true q e = eqb-true a 0 q
    added false q e = e

    go : (q : Bool) → eqb f.answer 0 ≡ q → (pick q (pick (eqb a 0) none (fault a n)) f).answer ≡ 0 → (f.answer ≡ 0) × (a ≡ 0)
    go true q e = (eqb-true f.answer 0 q, added (eqb a 0) refl e)
    go false q e = absurd (eqb-false f.answer 0 q e)

module _ (table text : List ℕ) where
  pub first-zero : first_fault table text 0 ≡ none
  unfolding first_fault
  first-zero = refl

  -- one node more, without a fault
  pub first_next : (n : ℕ) → first_fault table text n ≡ none → fault_at table text n ≡ 0 → first_fault table text (suc n) ≡ none
  unfolding first_fault
  first_next n e f = rw (e, f)

  -- the first node with a fault: it is the first of all N
  pub first-here : (n a N : ℕ) → first_fault table text n ≡ none → fault_at table text n ≡ a → (a ≡ 0 → ⊥) → n < N → first_fault table text N ≡ fault a n
  unfolding first_fault
  first-here n a zero e f ne h = absurd (not-suc-le-zero h)
  first-here n a (suc N) e f ne h = by (λ l. first-here n a N e f ne l) (dec_lt n N)
    where
      by : (n < N → first_fault table text N ≡ fault a n) → Dec (n < N) → or_else (first_fault table text N) N (fault_at table text N) ≡ fault a n
      by ih (yes l) = rw (ih l, ne_eqb a 0 ne)
      by ih (no l) = let s : N ≡ n = omega arith in rw (s, e, f, ne_eqb a 0 ne)

  -- the first N nodes have no fault: each of them has none
  pub clean_of : (N : ℕ) → (first_fault table text N).answer ≡ 0 → (n : ℕ) → n < N → fault_at table text n ≡ 0
  unfolding first_fault
  clean_of zero e n h = absurd (not-suc-le-zero h)
  clean_of (suc N) e n h =
      let p = or_else_of (first_fault table text N) N (fault_at table text N) e in
      by (clean_of N p.0 n) p.1 (dec_lt n N)
    where
      by : (n < N → fault_at table text n ≡ 0) → fault_at table text N ≡ 0 → Dec (n < N) → fault_at table text n ≡ 0
      by ih f (yes l) = ih l
      by ih f (no l) = let s : n ≡ N = omega arith in rw s f

  pub of_clean : (N : ℕ) → ((n : ℕ) → n < N → fault_at table text n ≡ 0) → first_fault table text N ≡ none
  of_clean zero f = first-zero
  of_clean (suc N) f = first_next N (of_clean N (λ n h. f n (omega arith))) (f N (omega arith))

-- ---- the whole table

module _ (table text : List ℕ) where
  pub check_sizes : sizes_right (length table) (length text) ≡ false → check table text ≡ fault 1 0
  unfolding check
  check_sizes e = rw e

  pub check-nodes : sizes_right (length table) (length text) ≡ true → check table text ≡ first_fault table text (length table / 4)
  unfolding check
  check-nodes e = rw e

  pub sizes_of : sizes_right (length table) (length text) ≡ true → (0 < length table) × (length table % 4 ≡ 0) × (length table ≤ 4096) × (length text ≤ 65536)
  sizes_of e =
      let w = length table in
      let p = and-true (not (eqb w 0) && eqb (w % 4) 0 && leb w 4096) (leb (length text) 65536) e in
      let q = and-true (not (eqb w 0) && eqb (w % 4) 0) (leb w 4096) p.0 in
      let r = and-true (not (eqb w 0)) (eqb (w % 4) 0) q.0 in
      let ne = eqb-false w 0 (not-true (eqb w 0) r.0) in
      (omega arith, eqb-true (w % 4) 0 r.1, leb-true w 4096 q.1, leb-true (length text) 65536 p.1)

  -- what `check` answers 0 for is valid
  pub valid_if-zero : (check table text).answer ≡ 0 → Valid table text
  unfolding check
  valid_if-zero e = go (sizes_right (length table) (length text)) refl e
    where
      go : (q : Bool) → sizes_right (length table) (length text) ≡ q → (pick q (first_fault table text (length table / 4)) (fault 1 0)).answer ≡ 0 → Valid table text
      go true q e =
          let s = sizes_of q in
          record {
            some = s.0;
            fours = s.1;
            words = s.2;
            bytes = s.3;
            nodes = λ n h. unfold fault_at in right_of text n _ _ _ _ (clean_of table text (length table / 4) e n h);
          }
      go false q e = absurd (omega arith)

  -- and what is valid is not refused
  pub zero_if-valid : Valid table text → check table text ≡ none
  unfolding check
  zero_if-valid r =
      let w = length table in
      let some : not (eqb w 0) ≡ true = ap not (ne_eqb w 0 (λ z. omega (arith, r.some))) in
      let whole = true-and (not (eqb w 0)) (eqb (w % 4) 0) some (eq-eqb (w % 4) 0 r.fours) in
      let table-size = true-and _ (leb w 4096) whole (le-leb w 4096 r.words) in
      let sizes : sizes_right w (length text) ≡ true = true-and _ _ table-size (le-leb (length text) 65536 r.bytes) in
      rw sizes (of_clean table text (w / 4) (λ n h. unfold fault_at in of_right text n _ _ _ _ (r.nodes n h)))

  -- both directions
  pub valid_iff-zero : ((check table text).answer ≡ 0) ↔ Valid table text
  valid_iff-zero = (valid_if-zero, λ r. ap (λ (f : Fault). f.answer) (zero_if-valid r))
