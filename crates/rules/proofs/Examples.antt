-- The premises of demand 3 are not empty: for each law a pair of tables whose documents differ by it, and one test that antt computes, that both
-- are valid, laid out, and give the same bytes. Some pairs have the law deeper in the document, or the other way round, or share nodes.
-- Assumes nothing.
use Prim.Native.Nat.{ℕ}
use Prim.Native.String.{String}
use native.Mathlib.Omega.{arith}
use mathlib.Core.Path.{◌≡◌, refl}
use mathlib.Core.List.{List, [], ◌∷◌}
use lib.Dec.{T}
use Rattle.table.specs.Node.{adds, subtracts, Node, nil, append, group, flat_alt, nest, hardline, text, annotated, union, align, fail, node_at}
use Rattle.table.specs.Unfold.{tree_over, trees, tree}
use Rattle.table.specs.Document.{doc}
use Rattle.rules.specs.Layout.{Report}
use Rattle.rules.specs.Call.{call}
use Rattle.rules.specs.Law as L
use Rattle.rules.specs.Law.{forth, back, here, Differ, document, Unrefused, Alike}
use Rattle.rules.proofs.Case.{computed}
use Rattle.rules.proofs.Pairs.{Pair, over, laid, both, both-laid, all}
use Rattle.rules.proofs.Demand3.{demand_3}

-- two tables at one width that differ by a law, and the bytes that both give
pair : (w : ℕ) (one other : List Node) → String → Differ (document (over one w)) (document (over other w)) → Pair Differ
pair w one other bytes law = record { width = w; one = one; other = other; gives = bytes; gives' = bytes; related = law }

pairs : List (Pair Differ)
unfolding pair over tree trees tree_over node_at doc
pairs =
    -- joins regroup
    pair 42
    (text 0 1 1 ∷ hardline ∷ text 1 1 1 ∷ append 0 1 ∷ append 3 2 ∷ nest 4 2 adds ∷ [])
    (text 0 1 1 ∷ hardline ∷ text 1 1 1 ∷ append 1 2 ∷ append 0 3 ∷ nest 4 2 adds ∷ [])
    "a\n  b" (forth (L.in-nest 2 adds (here (L.joins_regroup _ _ _))))
    -- Nil drops from the left of a join
    ∷ pair 42
    (hardline ∷ nil ∷ text 0 1 1 ∷ append 1 2 ∷ append 0 3 ∷ nest 4 2 adds ∷ [])
    (hardline ∷ text 0 1 1 ∷ append 0 1 ∷ nest 2 2 adds ∷ [])
    "\n  a" (forth (L.in-nest 2 adds (L.in-append-second _ (here (L.nil_drops _)))))
    -- group in group
    ∷ pair 1
    (hardline ∷ text 0 1 1 ∷ flat_alt 0 1 ∷ text 1 1 1 ∷ append 2 3 ∷ group 4 ∷ group 5 ∷ [])
    (hardline ∷ text 0 1 1 ∷ flat_alt 0 1 ∷ text 1 1 1 ∷ append 2 3 ∷ group 4 ∷ [])
    "\nb" (forth (here (L.group_in-group _)))
    -- group and nest change places
    ∷ pair 1
    (hardline ∷ text 0 1 1 ∷ flat_alt 0 1 ∷ text 1 1 1 ∷ append 2 3 ∷ nest 4 2 adds ∷ group 5 ∷ [])
    (hardline ∷ text 0 1 1 ∷ flat_alt 0 1 ∷ text 1 1 1 ∷ append 2 3 ∷ group 4 ∷ nest 5 2 adds ∷ [])
    "\n  b" (forth (here (L.group-nest _ 2 adds)))
    -- two nests that add, and two that subtract, in a nest by 8
    ∷ pair 42
    (hardline ∷ text 0 1 1 ∷ append 0 1 ∷ nest 2 2 adds ∷ nest 3 3 adds ∷ [])
    (hardline ∷ text 0 1 1 ∷ append 0 1 ∷ nest 2 5 adds ∷ [])
    "\n     a" (forth (here (L.nests-add _ 2 3 adds)))
    ∷ pair 42
    (hardline ∷ text 0 1 1 ∷ append 0 1 ∷ nest 2 2 subtracts ∷ nest 3 3 subtracts ∷ nest 4 8 adds ∷ [])
    (hardline ∷ text 0 1 1 ∷ append 0 1 ∷ nest 2 5 subtracts ∷ nest 3 8 adds ∷ [])
    "\n   a" (forth (L.in-nest 8 adds (here (L.nests-add _ 2 3 subtracts))))
    -- nest over align, the other way round
    ∷ pair 42
    (text 0 2 2 ∷ hardline ∷ append 1 0 ∷ align 2 ∷ append 0 3 ∷ [])
    (text 0 2 2 ∷ hardline ∷ append 1 0 ∷ align 2 ∷ nest 3 4 adds ∷ append 0 4 ∷ [])
    "ab\n  ab" (back (L.in-append-second _ (here (L.nest-over-align _ 4 adds))))
    -- align twice
    ∷ pair 42
    (text 0 2 2 ∷ hardline ∷ append 1 0 ∷ align 2 ∷ align 3 ∷ append 0 4 ∷ [])
    (text 0 2 2 ∷ hardline ∷ append 1 0 ∷ align 2 ∷ append 0 3 ∷ [])
    "ab\n  ab" (forth (L.in-append-second _ (here (L.align-twice _))))
    -- unions regroup
    ∷ pair 2
    (text 0 4 4 ∷ text 1 3 3 ∷ union 0 1 ∷ text 2 2 2 ∷ union 2 3 ∷ [])
    (text 0 4 4 ∷ text 1 3 3 ∷ text 2 2 2 ∷ union 1 2 ∷ union 0 3 ∷ [])
    "cd" (forth (here (L.unions_regroup _ _ _)))
    -- Fail drops from a union's first arm
    ∷ pair 42
    (text 0 1 1 ∷ annotated 0 7 ∷ [])
    (fail ∷ text 0 1 1 ∷ union 0 1 ∷ annotated 2 7 ∷ [])
    "a" (back (L.in-annotated 7 (here (L.fail-drops _))))
    -- union of twins, one node twice
    ∷ pair 2
    (text 0 4 4 ∷ union 0 0 ∷ text 3 1 1 ∷ union 1 2 ∷ [])
    (text 0 4 4 ∷ text 3 1 1 ∷ union 0 1 ∷ [])
    "d" (forth (L.in-union-first _ (here (L.union_twins _))))
    -- flat choice of twins, one node twice and two nodes
    ∷ pair 42
    (text 0 1 1 ∷ flat_alt 0 0 ∷ group 1 ∷ [])
    (text 0 1 1 ∷ group 0 ∷ [])
    "a" (forth (L.in_group (here (L.flat_alt_twins _))))
    ∷ pair 42
    (text 0 1 1 ∷ text 0 1 1 ∷ flat_alt 0 1 ∷ nil ∷ flat_alt 2 3 ∷ [])
    (text 0 1 1 ∷ nil ∷ flat_alt 0 1 ∷ [])
    "a" (forth (L.in-flat_alt-broken _ (here (L.flat_alt_twins _))))
    ∷ []

examples : T (all pairs)
unfolding pairs all computed
examples = tt

-- ---- so demand 3 applies to them

unrefused : (r : Report) → r.answer ≡ 0 → Unrefused r
unrefused r e =
    record { for-sizes = λ n. omega arith; for-steps = λ n. omega arith; for-bytes = λ n. omega arith; for-events = λ n. omega arith }

-- all premises of demand 3 hold of a pair that passes the test
applies : (e : Pair Differ) → T (both e) → Alike (call (over e.one e.width)) (call (over e.other e.width))
unfolding over
applies e t =
    let (l, r) = both-laid e t in
    let (v, a) = laid _ e.gives l in
    let (w, b) = laid _ e.gives' r in
    demand_3 _ _ v w e.related refl refl (unrefused _ a) (unrefused _ b)
