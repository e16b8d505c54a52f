-- The visit asked for: what a node that is due in layout answers, by its kind word and its mode.
--     reason-asked                        what the reason asks, with the summaries filled
--     visit-group, visit-flat, visit-other    the three answers
--     due-told                            what was due at the limit, by the rules
-- Assumes nothing.
use mathlib.Core.Path.{◌≡◌, refl, sym, ap, ◌∙◌}
use Prim.Native.Nat.{ℕ, ◌+◌, ◌*◌, ◌/◌, ◌≤◌, ◌<◌}
use native.Mathlib.Omega.{arith}
use mathlib.Core.Bool.{Bool, true, false}
use mathlib.Core.List.{List}
use lib.ListN.{length, get_or}
use lib.Dec.{eqb}
use borrow.Author.Tests.{ne_eqb, eqb-true, eqb-false}
use Rattle.choice.specs.Pick.{pick}
use Rattle.table.specs.Node.{Node, nil, append, group, flat_alt, nest, hardline, text, annotated, union, align, fail, way_of, node_at}
use Rattle.table.specs.Unfold.{Tree, tree}
use Rattle.table.proofs.Nodes.{node-is, sound_longer}
use Rattle.rules.specs.Layout.{Mode, flat, other}
use Rattle.rules.specs.Layout as layout
use Rattle.rules.specs.Why.{told, reason, at_visit}
use Rattle.machine.specs.Turn.{Env}
use Rattle.machine.specs.Waiting.{waiting}
use Rattle.machine.proofs.Rules.{due_at}
use Rattle.machine.proofs.Due.{outcome, group-due, other-due}
use Rattle.waiting.specs.Area.{area_words}
use Rattle.waiting.specs.Stack.{mode_of, stack_of}
use Rattle.waiting.specs.declared.Due.{Due}
use Rattle.waiting.proofs.Laws.{flat_mode, same_less, stack_same}
use Rattle.reasons.specs.Promise as reasons
use Rattle.summary.specs.declared.Reason.{Reason}
use Rattle.lay.specs.declared.State.{State}
use Rattle.render.specs.Visit.{Start, env_of}
use Rattle.render.specs.Best.{Halted}
use Rattle.std.specs.Prelude.{Ok, Err}
use Rattle.why.specs.declared.WhyRefused.TheVariants.{NoVisit}
use Rattle.why.specs.Promise.{Answer, why_of, Visiting, Visited}

-- ---- what was due, where it was no Group met broken

module _ (E : Env) (at : ℕ → Tree) (ws : List layout.Entry) (c : ℕ) where
  flat-other : (nd : Node) → due_at E at nd flat ws c ≡ other
  flat-other nil = refl
  flat-other (append a b) = refl
  flat-other (group a) = refl
  flat-other (flat_alt a b) = refl
  flat-other (nest a k way) = refl
  flat-other hardline = refl
  flat-other (text o l cols) = refl
  flat-other (annotated a l) = refl
  flat-other (union a b) = refl
  flat-other (align a) = refl
  flat-other fail = refl

  -- a kind word that is not a Group's
  kind-other : (m : Mode) (a b d : ℕ) (is0 is1 is3 is4 is5 is6 is7 is8 is9 : Bool)
      → due_at E at (pick is0 nil (pick is1 (append a b) (pick false (group a) (pick is3 (flat_alt a b) (pick is4 (nest a b (way_of d)) (pick is5 hardline (pick is6 (text a b d) (pick is7 (annotated a b) (pick is8 (union a b) (pick is9 (align a) fail)))))))))) m ws c ≡ other
  kind-other m a b d true is1 is3 is4 is5 is6 is7 is8 is9 = refl
  kind-other m a b d false true is3 is4 is5 is6 is7 is8 is9 = refl
  kind-other m a b d false false true is4 is5 is6 is7 is8 is9 = refl
  kind-other m a b d false false false true is5 is6 is7 is8 is9 = refl
  kind-other m a b d false false false false true is6 is7 is8 is9 = refl
  kind-other m a b d false false false false false true is7 is8 is9 = refl
  kind-other m a b d false false false false false false true is8 is9 = refl
  kind-other m a b d false false false false false false false true is9 = refl
  kind-other m a b d false false false false false false false false true = refl
  kind-other m a b d false false false false false false false false false = refl

  other-node : (T : List ℕ) (n : ℕ) (m : Mode) → (get_or T (n * 4) 0 ≡ 2 → ⊥) → due_at E at (node_at T n) m ws c ≡ other
  other-node T n m ne =
      let k = get_or T (n * 4) 0 in
      let no : eqb k 2 ≡ false = ne_eqb k 2 ne in
      rw (node-is T n k refl, no)
      (kind-other m (get_or T (n * 4 + 1) 0) (get_or T (n * 4 + 2) 0) (get_or T (n * 4 + 3) 0) (eqb k 0) (eqb k 1) (eqb k 3) (eqb k 4) (eqb k 5) (eqb k 6) (eqb k 7) (eqb k 8) (eqb k 9))

-- ---- the code's answers

module _ {T w : List ℕ} {W : ℕ} {s : State} {h : Due} (v : Visiting T w W s h) where
  abbrev n : ℕ
  n = h.node.0

  abbrev N : ℕ
  N = length T / 4

  pub visit-words : n * 4 + 4 ≤ length T
  visit-words = omega (arith, v.node)

  pub lent_of : reasons.Lent T w N
  lent_of = record { valid = v.valid; words = omega arith; small = v.small; area = v.area }

  child-small : get_or T (n * 4) 0 ≡ 2 → get_or T (n * 4 + 1) 0 < N
  child-small e = let g = rw (node-is T n 2 e) at (v.valid n v.node) in omega (arith, g, v.node)

  module _ {w' : List ℕ} (f : reasons.Filled T w N w') where
    same-stack : stack_of s.depth w' ≡ stack_of s.depth w
    same-stack = stack_same s.depth w w' (same_less s.depth 1024 w w' v.depth f.same)

    pub reason-asked : length w' ≡ length w → get_or T (n * 4) 0 ≡ 2 → reasons.Asked T w' s.depth (get_or T (n * 4 + 1) 0) s.page.column.0 W N
    reason-asked size e =
        record {
          met =
              record {
                lent = record { valid = v.valid; words = omega arith; small = v.small; area = omega (arith, v.area) };
                summed = f.summed;
                depth = v.depth;
                nodes = rw same-stack v.nodes;
                column = v.column;
                width = v.width;
              };
          child = child-small e;
        }

    pub visit-group : (x : Reason) → get_or T (n * 4) 0 ≡ 2 → h.mode.0 ≡ 0
        → reasons.Because T w' s.depth (get_or T (n * 4 + 1) 0) s.page.column.0 W x → Visited T w W s h (Ok x)
    visit-group x kind mode b =
        record {
          group = λ k m bytes. ap told (b bytes ∙ ap (λ l. reason W (tree T bytes (get_or T (n * 4 + 1) 0)) (waiting (tree T bytes) l) s.page.column.0) same-stack);
          flat = λ ne. absurd (ne mode);
          other = λ ne. absurd (ne kind);
        }

  pub visit-other : (get_or T (n * 4) 0 ≡ 2 → ⊥) → Visited T w W s h (Err NoVisit)
  visit-other ne = record { group = λ k m bytes. absurd (ne k); flat = λ q. refl; other = λ q. refl }

  pub visit-flat : (h.mode.0 ≡ 0 → ⊥) → Visited T w W s h (Err NoVisit)
  visit-flat ne = record { group = λ k m bytes. absurd (ne m); flat = λ q. refl; other = λ q. refl }

-- ---- by the rules

module _ {T tx out ev w : List ℕ} {W : ℕ} (st : Start T tx out ev w W (length T / 4)) (k : ℕ) {s : State} {h : Due} {out' ev' w' : List ℕ}
    (z : Halted (env_of T tx out ev W k) (length T / 4) s h out' ev' w') where
  abbrev E : Env
  E = env_of T tx out ev W k

  pub visiting : area_words ≤ length w' → Visiting T w' W s h
  visiting area =
      record {
        valid = λ i lt. sound_longer (length tx) 65536 i st.texts (node_at T i) (st.valid i lt);
        small = st.small;
        area = area;
        node = z.node;
        column = z.column;
        depth = z.depth;
        nodes = z.nodes;
        width = omega (arith, st.width);
      }

  pub due-told : (r : Answer) → Visited T w' W s h r → why_of r ≡ at_visit W (outcome E (length T / 4) st.some st.small st.valid st.room)
  due-told r v = by (eqb (get_or T (h.node.0 * 4) 0) 2) refl (eqb h.mode.0 0) refl
    where
      by : (b : Bool) → eqb (get_or T (h.node.0 * 4) 0) 2 ≡ b → (q : Bool) → eqb h.mode.0 0 ≡ q
          → why_of r ≡ at_visit W (outcome E (length T / 4) st.some st.small st.valid st.room)
      by true kind true mode =
          let k2 = eqb-true (get_or T (h.node.0 * 4) 0) 2 kind in
          let m0 = eqb-true h.mode.0 0 mode in
          v.group k2 m0 tx
          ∙ sym (group-due E (length T / 4) st.some st.small st.valid st.room h.node.0 h.indent.0 (get_or T (h.node.0 * 4 + 1) 0) (rw m0 at z.reached) (node-is T h.node.0 2 k2) W)
      by true kind false mode =
          let m0 = eqb-false h.mode.0 0 mode in
          v.flat m0
          ∙ sym (other-due E (length T / 4) st.some st.small st.valid st.room h.node.0 h.indent.0 (mode_of h.mode.0) z.reached
          (rw (flat_mode h.mode.0 m0) (flat-other E (tree T tx) _ _ (node_at T h.node.0))) W)
      by false kind q mode =
          let k2 = eqb-false (get_or T (h.node.0 * 4) 0) 2 kind in
          v.other k2
          ∙ sym (other-due E (length T / 4) st.some st.small st.valid st.room h.node.0 h.indent.0 (mode_of h.mode.0) z.reached
          (other-node E (tree T tx) _ _ T h.node.0 (mode_of h.mode.0) k2) W)
