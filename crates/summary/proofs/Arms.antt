-- A node by its words: which of them are numbers of nodes below, what it unfolds to, and its summary by those below it.
-- Assumes nothing.
use Prim.Native.Nat.{ℕ, ◌+◌, ◌*◌, ◌≤◌, ◌<◌}
use native.Mathlib.Omega.{arith}
use mathlib.Core.Path.{◌≡◌, refl, sym, ap, ap₂, subst, ◌∙◌}
use mathlib.Core.Logic.{inl, inr, ⊎_elim}
use mathlib.Core.Bool.{Bool, true, false}
use mathlib.Core.List.{List, [], ◌∷◌}
use types.Run.{OneOf}
use lib.ListN.{length, get_or}
use lib.Dec.{eqb}
use borrow.Author.Tests.{le-leb, ne_eqb, eqb-true, eqb-false}
use Rattle.table.specs.Node.{Node, node_of, node_at}
use Rattle.table.specs.declared.Words.{Words}
use Rattle.table.specs.Unfold.{tree_of, tree}
use Rattle.table.specs.Sound.{Sound}
use Rattle.table.proofs.Unfolded.{tree-node}
use Rattle.rules.specs.Layout.{mode_if}
use Rattle.summary.specs.Summary.{summary, word_of}
use Rattle.summary.specs.Promise.{place_of, join_words, Reads, Says, Below}
use Rattle.summary.proofs.Laws.{summary_bound, join-words}

-- the kinds with one child: Group, Nest, Annotated and Align
abbrev pub OneChild : ℕ → Type 0
OneChild k = OneOf (2 ∷ 4 ∷ 7 ∷ 9 ∷ []) k

-- a kind that is none of 0 to 9
none_of : (k a b c : ℕ) → (k ≡ 0 → ⊥) → (k ≡ 1 → ⊥) → (OneChild k → ⊥) → (k ≡ 3 → ⊥) → (k ≡ 5 → ⊥) → (k ≡ 6 → ⊥) → (k ≡ 8 → ⊥) → node_of k a b c ≡ Node.fail
none_of k a b c h0 h1 one h3 h5 h6 h8 =
    let h2 : k ≡ 2 → ⊥ = λ e. one (inl e) in
    let h4 : k ≡ 4 → ⊥ = λ e. one (inr (inl e)) in
    let h7 : k ≡ 7 → ⊥ = λ e. one (inr (inr (inl e))) in
    let h9 : k ≡ 9 → ⊥ = λ e. one (inr (inr (inr e))) in
    rw (ne_eqb k 0 h0, ne_eqb k 1 h1, ne_eqb k 2 h2, ne_eqb k 3 h3, ne_eqb k 4 h4, ne_eqb k 5 h5, ne_eqb k 6 h6, ne_eqb k 7 h7, ne_eqb k 8 h8, ne_eqb k 9 h9)

-- ---- a sound node by its words

module _ {T : List ℕ} {n : ℕ} {w : Words} (sound : Sound 65536 n (node_at T n)) (r : Reads T n w) where
  pub node_of_lem : (k : ℕ) → w.kind ≡ k → node_at T n ≡ node_of k w.a w.b w.c
  node_of_lem k e = r.node ∙ ap (λ k. node_of k w.a w.b w.c) e

  pub node-none : (w.kind ≡ 0 → ⊥) → (w.kind ≡ 1 → ⊥) → (OneChild w.kind → ⊥) → (w.kind ≡ 3 → ⊥) → (w.kind ≡ 5 → ⊥) → (w.kind ≡ 6 → ⊥) → (w.kind ≡ 8 → ⊥) → node_at T n ≡ Node.fail
  node-none h0 h1 one h3 h5 h6 h8 = r.node ∙ none_of w.kind w.a w.b w.c h0 h1 one h3 h5 h6 h8

  sound_of : (k : ℕ) → w.kind ≡ k → Sound 65536 n (node_of k w.a w.b w.c)
  sound_of k e = subst (Sound 65536 n) (node_of_lem k e) sound

  -- children are below, and a Text's columns are no more than the text's bytes
  pub append-below : w.kind ≡ 1 → (w.a < n) × (w.b < n)
  append-below e = sound_of 1 e

  pub flat_alt-below : w.kind ≡ 3 → (w.a < n) × (w.b < n)
  flat_alt-below e = sound_of 3 e

  pub union-below : w.kind ≡ 8 → w.b < n
  union-below e = (sound_of 8 e).1

  pub one_below : OneChild w.kind → w.a < n
  one_below h = ⊎_elim (λ e. sound_of 2 e) (⊎_elim (λ e. (sound_of 4 e).0) (⊎_elim (λ e. sound_of 7 e) (λ e. sound_of 9 e))) h

  pub text-columns : w.kind ≡ 6 → w.c ≤ 65536
  text-columns e = let g = sound_of 6 e in omega (arith, g.0, g.1)

  pub unfolds : (nd : Node) → node_at T n ≡ nd → (bytes : List ℕ) → tree T bytes n ≡ tree_of bytes (tree T bytes) n nd
  unfolds nd e bytes = tree-node T bytes n 65536 sound ∙ ap (tree_of bytes (tree T bytes) n) e

-- ---- a node's summary

module _ {T M : List ℕ} {n : ℕ} (h : Below T M n) where
  -- the summary of a node below n is in the memo
  pub child-place : (x : ℕ) → x < n → (x < 1024) × (x * 2 + 2 ≤ length M)
  child-place x less = (omega (arith, h.small), omega (arith, h.room))

  -- and small
  pub child-small : (x : ℕ) (f : Bool) (m : ℕ) → x < n → m ≡ get_or M (place_of x f) 0 → m ≤ 65538
  child-small x f m less e = rw (e, h.summed x less f []) (summary_bound (tree T [] x) (mode_if f))

  module _ {w : Words} (r : Reads T n w) where
    says_as : (nd : Node) → node_at T n ≡ nd → (f : Bool) (x : ℕ)
        → ((bytes : List ℕ) → x ≡ word_of (summary (tree_of bytes (tree T bytes) n nd) (mode_if f))) → Says T n f x
    says_as nd e f x g bytes = g bytes ∙ ap (λ t. word_of (summary t (mode_if f))) (sym (unfolds h.sound r nd e bytes))

    pub says-nil : (f : Bool) → w.kind ≡ 0 → Says T n f 0
    unfolding summary
    says-nil f e = says_as Node.nil (node_of_lem h.sound r 0 e) f 0 (λ bytes. refl)

    pub says-text : (f : Bool) → w.kind ≡ 6 → Says T n f (w.c + 1)
    unfolding summary
    says-text f e =
        says_as (Node.text w.a w.b w.c) (node_of_lem h.sound r 6 e) f (w.c + 1) (λ bytes. rw (le-leb w.c 65536 (text-columns h.sound r e)))

    says-hardline : (f : Bool) → w.kind ≡ 5 → Says T n f 65538
    unfolding summary
    says-hardline f e = says_as Node.hardline (node_of_lem h.sound r 5 e) f 65538 (λ bytes. refl)

    says-fail : (f : Bool) → node_at T n ≡ Node.fail → Says T n f 65538
    unfolding summary
    says-fail f e = says_as Node.fail e f 65538 (λ bytes. refl)

    -- a Hardline, or a kind that is none of 0 to 9
    pub says-stop : (f : Bool)
        → (w.kind ≡ 0 → ⊥) → (w.kind ≡ 1 → ⊥) → (OneChild w.kind → ⊥) → (w.kind ≡ 3 → ⊥) → (w.kind ≡ 6 → ⊥) → (w.kind ≡ 8 → ⊥) → Says T n f 65538
    says-stop f h0 h1 one h3 h6 h8 = by (eqb w.kind 5) refl
      where
        by : (q : Bool) → eqb w.kind 5 ≡ q → Says T n f 65538
        by true e = says-hardline f (eqb-true w.kind 5 e)
        by false e = says-fail f (node-none h.sound r h0 h1 one h3 (eqb-false w.kind 5 e) h6 h8)

    pub says-append : (f : Bool) → w.kind ≡ 1 → Says T n f (join_words (get_or M (place_of w.a f) 0) (get_or M (place_of w.b f) 0))
    unfolding summary
    says-append f e =
        let less = append-below h.sound r e in
        says_as (Node.append w.a w.b) (node_of_lem h.sound r 1 e) f _
        (λ bytes. ap₂ join_words (h.summed w.a less.0 f bytes) (h.summed w.b less.1 f bytes)
        ∙ sym (join-words (summary (tree T bytes w.a) (mode_if f)) (summary (tree T bytes w.b) (mode_if f))))

    pub says_one : (f : Bool) → OneChild w.kind → Says T n f (get_or M (place_of w.a f) 0)
    unfolding summary
    says_one f kind =
        let child = h.summed w.a (one_below h.sound r kind) f in
        ⊎_elim (λ e. says_as (Node.group w.a) (node_of_lem h.sound r 2 e) f _ child)
        (⊎_elim (λ e. says_as _ (node_of_lem h.sound r 4 e) f _ child)
        (⊎_elim (λ e. says_as (Node.annotated w.a w.b) (node_of_lem h.sound r 7 e) f _ child)
        (λ e. says_as (Node.align w.a) (node_of_lem h.sound r 9 e) f _ child)))
        kind

    pub says-flat_alt-flat : w.kind ≡ 3 → Says T n true (get_or M (place_of w.b true) 0)
    unfolding summary
    says-flat_alt-flat e =
        says_as (Node.flat_alt w.a w.b) (node_of_lem h.sound r 3 e) true _ (h.summed w.b (flat_alt-below h.sound r e).1 true)

    pub says-flat_alt-broken : w.kind ≡ 3 → Says T n false (get_or M (place_of w.a false) 0)
    unfolding summary
    says-flat_alt-broken e =
        says_as (Node.flat_alt w.a w.b) (node_of_lem h.sound r 3 e) false _ (h.summed w.a (flat_alt-below h.sound r e).0 false)

    pub says-union : (f : Bool) → w.kind ≡ 8 → Says T n f (get_or M (place_of w.b f) 0)
    unfolding summary
    says-union f e = says_as (Node.union w.a w.b) (node_of_lem h.sound r 8 e) f _ (h.summed w.b (union-below h.sound r e) f)
