-- Every line feed in the output is a Hardline's. What is laid of a document are pieces that stand on one of its ways (`lay-pieces`); a valid
-- table's Texts have no line feed (`unfed-tree`), so that of pieces the line feeds are as many as the Hardlines (`counted-feeds`); and so of
-- every call with answer 0 (`all-fed`).
-- Assumes nothing.
use Prim.Native.Nat.{ℕ, zero, suc, ◌+◌, ◌/◌, ◌<◌, ◌≤◌}
use native.Mathlib.Omega.{arith}
use mathlib.Core.Path.{◌≡◌, refl, sym, ap, ap₂, ◌∙◌, subst}
use mathlib.Core.Bool.{Bool, true, false, not}
use mathlib.Core.List.{List, [], ◌∷◌, ◌++◌, append_assoc, append-nil}
use lib.Dec.{leb, ltb, eqb}
use lib.ListN.{length, replicate}
use borrow.Author.Tests.{not-true, eqb-true, eqb-false}
use native.Mathlib.Nat.{zero-add, add_assoc, not-suc-le-zero}
use Rattle.choice.specs.Pick.{pick}
use Rattle.choice.proofs.Tests.{and-true}
use Rattle.buffer.specs.Utf8.{every, no_feed}
use Rattle.table.specs.Fault.{Fault, check}
use Rattle.table.specs.Kinds.{kinds, kind_at}
use Rattle.table.specs.Node.{node_of, node_at}
use Rattle.table.specs.Valid.{NodeRight, Valid}
use Rattle.table.specs.Unfold as tree
use Rattle.table.specs.Unfold.{Tree, tree_of, root}
use Rattle.table.proofs.Accept.{valid_if-zero}
use Rattle.table.proofs.Sound.{all-sound_of-valid}
use Rattle.table.proofs.Unfolded.{tree-node}
use Rattle.rules.specs.Layout.{Limits, Page, blank, Mode, flat, broken, Entry, Due, other, Refusal, steps, bytes, events, Outcome, done, failed, refused, Fit, says, spent}
use Rattle.rules.specs.Layout.{nested, also, and_then, try, chosen, visit, fit, rest, step, put, event, lay, taken, wrote, fed, next, marked, Report, report, layout}
use Rattle.rules.specs.Call.{Given, buffers_right, limits, refusal, unless_fault, call}
use Rattle.rules.specs.Pieces.{Piece, text_piece, hardline_piece, bytes_of, all_bytes, Stand, nil, append, group, when-broken, when-flat, nest, hardline, text, annotated, first-arm, second-arm, align, feeds, hardlines, Unfed, Fed}

-- ---- pieces one after the other

pub all_append : (ps qs : List Piece) → all_bytes (ps ++ qs) ≡ all_bytes ps ++ all_bytes qs
unfolding all_bytes
all_append [] qs = refl
all_append (p ∷ ps) qs = ap (λ (l : List ℕ). bytes_of p ++ l) (all_append ps qs) ∙ sym (append_assoc (bytes_of p) (all_bytes ps) (all_bytes qs))

-- ---- a layout grows by pieces

-- an outcome from the page p: what is done has pieces of the kind Q behind what stood
pub data Grown (Q : List Piece → Type 0) (p : Page) : Outcome → Type 0 where
  grown : {p' : Page} {o : Bool} {s : ℕ} (ps : List Piece) → Q ps → p'.out ≡ p.out ++ all_bytes ps → Grown Q p (done p' o s)
  at_a-fail : {s : ℕ} → Grown Q p (failed s)
  at_a-refusal : {r : Refusal} {n s : ℕ} → Grown Q p (refused r n s)

-- nothing more
stays : (p : Page) → p.out ≡ p.out ++ all_bytes []
unfolding all_bytes
stays p = sym (append-nil p.out)

one : (p : Page) (q : Piece) → p.out ++ bytes_of q ≡ p.out ++ all_bytes (q ∷ [])
unfolding all_bytes
one p q = ap (λ (l : List ℕ). p.out ++ l) (sym (append-nil (bytes_of q)))

-- the same pieces, of another kind
becomes : {Q R : List Piece → Type 0} {p : Page} {x : Outcome} → ((ps : List Piece) → Q ps → R ps) → Grown Q p x → Grown R p x
becomes f (grown ps q e) = grown ps (f ps q) e
becomes f at_a-fail = at_a-fail
becomes f at_a-refusal = at_a-refusal

also-grown : {Q : List Piece → Type 0} {p : Page} (o : Bool) {x : Outcome} → Grown Q p x → Grown Q p (also o x)
also-grown o (grown ps q e) = grown ps q e
also-grown o at_a-fail = at_a-fail
also-grown o at_a-refusal = at_a-refusal

-- one after the other: pieces of both kinds
module _ {Q R S : List Piece → Type 0} (both : (ps qs : List Piece) → Q ps → R qs → S (ps ++ qs)) where
  behind : {p p' : Page} (ps : List Piece) → Q ps → p'.out ≡ p.out ++ all_bytes ps → {x : Outcome} → Grown R p' x → Grown S p x
  behind {p} ps q e (grown qs r e') =
      grown (ps ++ qs) (both ps qs q r)
      (e' ∙ ap (λ (l : List ℕ). l ++ all_bytes qs) e ∙ append_assoc p.out (all_bytes ps) (all_bytes qs) ∙ ap (λ (l : List ℕ). p.out ++ l) (sym (all_append ps qs)))
  behind ps q e at_a-fail = at_a-fail
  behind ps q e at_a-refusal = at_a-refusal

  then-grown : {p : Page} {x : Outcome} {f : Page → ℕ → Outcome} → Grown Q p x → ((p : Page) (s : ℕ) → Grown R p (f p s)) → Grown S p (and_then x f)
  then-grown (grown {p' = p'} {o = o} {s = s} ps q e) k = also-grown o (behind ps q e (k p' s))
  then-grown at_a-fail k = at_a-fail
  then-grown at_a-refusal k = at_a-refusal

-- a trial: the second arm has the page from before the Union
try-grown : {Q : List Piece → Type 0} {p : Page} {x : Outcome} {f : ℕ → Outcome} → Grown Q p x → ((s : ℕ) → Grown Q p (f s)) → Grown Q p (try x f)
try-grown (grown {o = true} {s = s} ps q e) k = k s
try-grown (grown {o = false} ps q e) k = grown ps q e
try-grown (at_a-fail {s}) k = k s
try-grown at_a-refusal k = at_a-refusal

chosen-grown : {Q : List Piece → Type 0} {p : Page} (x : Fit) {f : Mode → ℕ → Outcome} → ((m : Mode) (s : ℕ) → Grown Q p (f m s)) → Grown Q p (chosen x f)
chosen-grown (says true s) k = k flat s
chosen-grown (says false s) k = k broken s
chosen-grown (spent n s) k = at_a-refusal

module _ (L : Limits) where
  visit-grown : {Q : List Piece → Type 0} {p : Page} (d : Due) (n s : ℕ) {go : ℕ → Outcome} → ((s : ℕ) → Grown Q p (go s)) → Grown Q p (visit L (refused (steps d) n s) s go)
  unfolding visit
  visit-grown {Q} {p} d n s {go} k = by (eqb s L.limit)
    where
      by : (b : Bool) → Grown Q p (elim b [ true ↦ refused (steps d) n s | false ↦ go (s + 1) ])
      by true = at_a-refusal
      by false = k (s + 1)

  step-grown : {Q : List Piece → Type 0} {p : Page} (n s : ℕ) {go : ℕ → Outcome} → ((s : ℕ) → Grown Q p (go s)) → Grown Q p (step L n s go)
  step-grown n s k = visit-grown other n s k

  put-grown : {Q : List Piece → Type 0} {p : Page} (p' : Page) (past : Bool) (s : ℕ) (ps : List Piece) → Q ps → p'.out ≡ p.out ++ all_bytes ps → Grown Q p (put L p' past s)
  unfolding put
  put-grown {Q} {p} p' past s ps q e = by (leb (taken p') L.room)
    where
      by : (b : Bool) → Grown Q p (elim b [ true ↦ done p' past s | false ↦ refused bytes 0 s ])
      by true = grown ps q e
      by false = at_a-refusal

  event-grown : (n mark label : ℕ) (p : Page) (s : ℕ) → Grown (λ ps. ps ≡ []) p (event L n mark label p s)
  unfolding event
  event-grown n mark label p s = by (ltb (length p.events) L.slots)
    where
      by : (b : Bool) → Grown (λ ps. ps ≡ []) p (elim b [ true ↦ done (marked mark label p) false s | false ↦ refused events n s ])
      by true = grown {p' = marked mark label p} [] refl (stays p)
      by false = at_a-refusal

  -- what is laid of a document are pieces that stand on one of its ways
  pub lay-pieces : (t : Tree) (i : ℕ) (m : Mode) (ws : List Entry) (p : Page) (s : ℕ) → Grown (Stand t) p (lay L t i m ws p s)
  unfolding lay
  lay-pieces (tree.nil n) i m ws p s = step-grown n s (λ s. grown [] nil (stays p))
  lay-pieces (tree.append n a b) i m ws p s =
      step-grown n s (λ s. then-grown (λ ps qs. append) (lay-pieces a i m _ p s) (λ p s. lay-pieces b i m ws p s))
  lay-pieces (tree.group n a) i flat ws p s = step-grown n s (λ s. becomes (λ ps. group) (lay-pieces a i flat ws p s))
  lay-pieces (tree.group n a) i broken ws p s =
      visit-grown _ n s (λ s. becomes (λ ps. group) (chosen-grown (fit L a flat (rest L ws) p.column s) (λ m s. lay-pieces a i m ws p s)))
  lay-pieces (tree.flat_alt n a b) i flat ws p s = step-grown n s (λ s. becomes (λ ps. when-flat) (lay-pieces b i flat ws p s))
  lay-pieces (tree.flat_alt n a b) i broken ws p s = step-grown n s (λ s. becomes (λ ps. when-broken) (lay-pieces a i broken ws p s))
  lay-pieces (tree.nest n a k way) i m ws p s = step-grown n s (λ s. becomes (λ ps. nest) (lay-pieces a (nested way k i) m ws p s))
  lay-pieces (tree.hardline n) i m ws p s =
      step-grown n s (λ s. put-grown (fed (next ws i) p) false s (hardline_piece (next ws i) ∷ []) (hardline (next ws i)) (one p (hardline_piece (next ws i))))
  lay-pieces (tree.text n bs cols) i m ws p s = step-grown n s (λ s. put-grown (wrote bs cols p) _ s (text_piece bs ∷ []) text (one p (text_piece bs)))
  lay-pieces (tree.annotated n a l) i m ws p s =
      step-grown n s
      (λ s. then-grown {Q = λ ps. ps ≡ []} {R = Stand a} (λ ps qs e q. subst (λ x. Stand (tree.annotated n a l) (x ++ qs)) (sym e) (annotated q)) (event-grown n 1 l p s)
      (λ p s. then-grown {Q = Stand a} {R = λ ps. ps ≡ []} {S = Stand a} (λ ps qs q e. subst (Stand a) (sym (append-nil ps) ∙ ap (λ (x : List Piece). ps ++ x) (sym e)) q) (lay-pieces a i m ws p s) (λ p s. event-grown n 0 l p s)))
  lay-pieces (tree.union n a b) i m ws p s =
      step-grown n s (λ s. try-grown (becomes (λ ps. first-arm) (lay-pieces a i m ws p s)) (λ s. becomes (λ ps. second-arm) (lay-pieces b i m ws p s)))
  lay-pieces (tree.align n a) i m ws p s = step-grown n s (λ s. becomes (λ ps. align) (lay-pieces a p.column m ws p s))
  lay-pieces (tree.fail n) i m ws p s = step-grown n s (λ s. at_a-fail)

-- ---- Texts without a line feed

-- every Text of a tree
abbrev pub Quiet : Tree → Type 0
Quiet (tree.nil n) = Unit {0}
Quiet (tree.append n a b) = Quiet a × Quiet b
Quiet (tree.group n a) = Quiet a
Quiet (tree.flat_alt n a b) = Quiet a × Quiet b
Quiet (tree.nest n a k way) = Quiet a
Quiet (tree.hardline n) = Unit {0}
Quiet (tree.text n bs cols) = no_feed bs ≡ true
Quiet (tree.annotated n a l) = Quiet a
Quiet (tree.union n a b) = Quiet a × Quiet b
Quiet (tree.align n a) = Quiet a
Quiet (tree.fail n) = Unit {0}

unfed-append : (ps qs : List Piece) → Unfed ps → Unfed qs → Unfed (ps ++ qs)
unfed-append [] qs u v = v
unfed-append (text_piece bs ∷ ps) qs u v = (u.0, unfed-append ps qs u.1 v)
unfed-append (hardline_piece i ∷ ps) qs u v = unfed-append ps qs u v

quiet-pieces : {t : Tree} {ps : List Piece} → Stand t ps → Quiet t → Unfed ps
quiet-pieces nil q = tt
quiet-pieces (append {ps = ps} {qs = qs} a b) q = unfed-append ps qs (quiet-pieces a q.0) (quiet-pieces b q.1)
quiet-pieces (group a) q = quiet-pieces a q
quiet-pieces (when-broken a) q = quiet-pieces a q.0
quiet-pieces (when-flat b) q = quiet-pieces b q.1
quiet-pieces (nest a) q = quiet-pieces a q
quiet-pieces (hardline i) q = tt
quiet-pieces text q = (q, tt)
quiet-pieces (annotated a) q = quiet-pieces a q
quiet-pieces (first-arm a) q = quiet-pieces a q.0
quiet-pieces (second-arm b) q = quiet-pieces b q.1
quiet-pieces (align a) q = quiet-pieces a q

-- ---- line feeds counted

feeds-append : (xs ys : List ℕ) → feeds (xs ++ ys) ≡ feeds xs + feeds ys
unfolding feeds
feeds-append [] ys = sym (zero-add (feeds ys))
feeds-append (x ∷ xs) ys = ap (λ (k : ℕ). pick (eqb x 10) 1 0 + k) (feeds-append xs ys) ∙ sym (add_assoc (pick (eqb x 10) 1 0) (feeds xs) (feeds ys))

no-feeds : (bs : List ℕ) → no_feed bs ≡ true → feeds bs ≡ 0
unfolding feeds no_feed every
no-feeds [] e = refl
no-feeds (b ∷ bs) e =
    let p = and-true (not (eqb b 10)) (no_feed bs) e in
    rw (not-true (eqb b 10) p.0, no-feeds bs p.1)

no-feeds_in-blanks : (n : ℕ) → feeds (replicate n 32) ≡ 0
unfolding feeds
no-feeds_in-blanks zero = refl
no-feeds_in-blanks (suc n) = rw (no-feeds_in-blanks n)

one_feed : (i : ℕ) → feeds (10 ∷ replicate i 32) ≡ 1
unfolding feeds
one_feed i = rw (no-feeds_in-blanks i)

pub counted-feeds : (ps : List Piece) → Unfed ps → feeds (all_bytes ps) ≡ hardlines ps
unfolding all_bytes hardlines
counted-feeds [] u = unfold feeds in refl
counted-feeds (text_piece bs ∷ ps) u = feeds-append bs (all_bytes ps) ∙ rw (no-feeds bs u.0, counted-feeds ps u.1, zero-add)
counted-feeds (hardline_piece i ∷ ps) u =
    feeds-append (10 ∷ replicate i 32) (all_bytes ps) ∙ ap₂ ◌+◌ (one_feed i) (counted-feeds ps u)

-- ---- a valid table

-- a node as document 01 asks, over trees without line feeds
quiet-words : (bs : List ℕ) (at : ℕ → Tree) (n k a b c : ℕ) → NodeRight bs n k a b c → ((i : ℕ) → i < n → Quiet (at i)) → Quiet (tree_of bs at n (node_of k a b c))
unfolding kind_at kinds
quiet-words bs at n zero a b c r q = tt
quiet-words bs at n (suc zero) a b c r q = (q a (r.first-child (omega arith)), q b (r.second-child (omega arith)))
quiet-words bs at n (suc (suc zero)) a b c r q = q a (r.first-child (omega arith))
quiet-words bs at n (suc (suc (suc zero))) a b c r q = (q a (r.first-child (omega arith)), q b (r.second-child (omega arith)))
quiet-words bs at n (suc (suc (suc (suc zero)))) a b c r q = q a (r.first-child (omega arith))
quiet-words bs at n (suc (suc (suc (suc (suc zero))))) a b c r q = tt
quiet-words bs at n (suc (suc (suc (suc (suc (suc zero)))))) a b c r q = (r.text refl).unfed
quiet-words bs at n (suc (suc (suc (suc (suc (suc (suc zero))))))) a b c r q = q a (r.first-child (omega arith))
quiet-words bs at n (suc (suc (suc (suc (suc (suc (suc (suc zero)))))))) a b c r q = (q a (r.first-child (omega arith)), q b (r.second-child (omega arith)))
quiet-words bs at n (suc (suc (suc (suc (suc (suc (suc (suc (suc zero))))))))) a b c r q = q a (r.first-child (omega arith))
quiet-words bs at n (suc (suc (suc (suc (suc (suc (suc (suc (suc (suc zero)))))))))) a b c r q = tt
quiet-words bs at n (suc (suc (suc (suc (suc (suc (suc (suc (suc (suc (suc k))))))))))) a b c r q = absurd (omega (arith, r.known))

module _ (table bs : List ℕ) (valid : Valid table bs) where
  quiet-below : (N : ℕ) → N ≤ length table / 4 → (n : ℕ) → n < N → Quiet (tree.tree table bs n)
  unfolding node_at
  quiet-below zero h n l = absurd (not-suc-le-zero l)
  quiet-below (suc N) h n l =
      let at_n : n < length table / 4 = omega arith in
      subst Quiet (sym (tree-node table bs n (length bs) (all-sound_of-valid table bs valid n at_n)))
      (quiet-words bs (tree.tree table bs) n _ _ _ _ (valid.nodes n at_n) (λ i m. quiet-below N (omega arith) i (omega arith)))

  -- of what a valid table unfolds to every Text is without a line feed
  pub quiet-tree : Quiet (tree.tree table bs (root table))
  quiet-tree = quiet-below (length table / 4) (omega arith) (root table) (omega (arith, valid.some, valid.fours))

-- ---- a call

reported-fed : {t : Tree} {x : Outcome} → Quiet t → Grown (Stand t) blank x → (report x).answer ≡ 0 → Fed t (report x).bytes
reported-fed q (grown ps s e) z =
    let u = quiet-pieces s q in
    record { pieces = ps; stand = s; output = e; texts = u; counted = ap feeds e ∙ counted-feeds ps u }
reported-fed q at_a-fail z = absurd (omega arith)
reported-fed q (at_a-refusal {r = steps d}) z = absurd (omega arith)
reported-fed q (at_a-refusal {r = bytes}) z = absurd (omega arith)
reported-fed q (at_a-refusal {r = events}) z = absurd (omega arith)

run-fed : (L : Limits) (t : Tree) → Quiet t → (layout L t).answer ≡ 0 → Fed t (layout L t).bytes
unfolding layout
run-fed L t q z = reported-fed q (lay-pieces L t 0 broken [] blank 0) z

-- Every line feed in the output of a call is a Hardline's.
pub all-fed : (g : Given) → (call g).answer ≡ 0 → Fed (tree.tree g.table g.text (root g.table)) (call g).bytes
unfolding call
all-fed g z = by (buffers_right g) (check g.table g.text) refl z
  where
    t : Tree
    t = tree.tree g.table g.text (root g.table)

    run : Report
    run = layout (limits g) t

    at : (f : Fault) → check g.table g.text ≡ f → (b : Bool) → eqb f.answer 0 ≡ b → (pick b run (refusal f.answer f.place)).answer ≡ 0 → Fed t (pick b run (refusal f.answer f.place)).bytes
    at f e true c z = run-fed (limits g) t (quiet-tree g.table g.text (valid_if-zero g.table g.text (ap (λ (f : Fault). f.answer) e ∙ eqb-true f.answer 0 c))) z
    at f e false c z = absurd (eqb-false f.answer 0 c z)

    by : (b : Bool) (f : Fault) → check g.table g.text ≡ f → (pick b (unless_fault f run) (refusal 1 0)).answer ≡ 0 → Fed t (pick b (unless_fault f run) (refusal 1 0)).bytes
    by true f e z = at f e (eqb f.answer 0) refl z
    by false f e z = absurd (omega arith)
