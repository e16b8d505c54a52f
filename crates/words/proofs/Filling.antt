-- Words joined one by one, something between them: what a loop over them has built, and that it comes to `intersperse`.
--     on_doc, on-start            what stands, with the words to come
--     Adding, none-added, one-added, all-added     before the first, one more, and no more to come
--     Filling, fill_start, fill-next, fill_end     the same of the words of a text
-- Assumes nothing.
use Prim.Native.Nat.{ℕ, ◌+◌, ◌-◌, ◌≤◌, ◌<◌}
use native.Mathlib.Omega.{arith}
use mathlib.Core.Path.{◌≡◌, refl, sym, ap, ◌∙◌, subst}
use mathlib.Core.List.{List, [], ◌∷◌, map}
use lib.ListN.{length, take, drop}
use Rattle.table.specs.Document.{Doc, nil}
use Rattle.table.specs.declared.NodeNo.{NodeNo}
use Rattle.build.specs.declared.Counts.{Counts}
use Rattle.build.specs.Outcome.{Made}
use Rattle.std.specs.Prelude.{Ok}
use Rattle.build.specs.Documents.{append_doc, softline_doc, joined_doc, separated_doc, intersperse_doc}
use Rattle.words.specs.Documents.{leaf_doc, filled_doc}
use Rattle.buffer.specs.Parts.{blanks, skipped}
use Rattle.words.specs.Words.{together, words_on}
use Rattle.words.specs.Build.{Is, Gives}
use Rattle.words.proofs.Chain.{new, kept, after, given}
use Rattle.words.proofs.Cutting.{words-next, no_words}
use Rattle.buffer.proofs.Reading.{done}

-- a node, what comes next between, and the words to come
unfoldable pub on_doc : Doc → Doc → Doc → List (List ℕ) → Doc
on_doc separator d between [] = d
on_doc separator d between (w ∷ ws) = on_doc separator (append_doc (append_doc d between) (leaf_doc w)) separator ws

module _ (separator : Doc) where
  on-separated : (d : Doc) (ws : List (List ℕ)) → on_doc separator d separator ws ≡ joined_doc d (separated_doc separator (map leaf_doc ws))
  unfolding on_doc joined_doc separated_doc
  on-separated d [] = refl
  on-separated d (w ∷ ws) = on-separated (append_doc (append_doc d separator) (leaf_doc w)) ws

  on-start : (ws : List (List ℕ)) → on_doc separator nil nil ws ≡ intersperse_doc (map leaf_doc ws) separator
  unfolding on_doc intersperse_doc append_doc
  on-start [] = refl
  on-start (w ∷ ws) = on-separated (leaf_doc w) ws

-- from counts c₀ so many words are joined, which with those to come are all
module _ (c₀ : Counts) (t₀ x₀ : List ℕ) (separator all : Doc) where
  pub record Adding (ws : List (List ℕ)) (c : Counts) (t x : List ℕ) (n between : NodeNo) : Type 0 where
    pub said : Doc
    pub next : Doc
    pub gives : Gives c₀ t₀ x₀ (Ok (c, n)) t x said
    pub between_is : Is c₀ t₀ x₀ between next
    pub rest : on_doc separator said next ws ≡ all

pub none-added : (c : Counts) (t x : List ℕ) (separator : Doc) (ws : List (List ℕ)) (n : NodeNo) → Is c t x n nil → Adding c t x separator (intersperse_doc (map leaf_doc ws) separator) ws c t x n n
none-added c t x separator ws n i = record { said = nil; next = nil; gives = given i; between_is = i; rest = on-start separator ws }

-- what the joining of a word promises
abbrev pub Joins : Counts → List ℕ → List ℕ → NodeNo → NodeNo → List ℕ → Made → List ℕ → List ℕ → Type 0
Joins c t x n between w r t' x' = (d e : Doc) → Is c t x n d → Is c t x between e → Gives c t x r t' x' (append_doc (append_doc d e) (leaf_doc w))

module _ {c₀ : Counts} {t₀ x₀ : List ℕ} {separator all : Doc} {ws : List (List ℕ)} {c : Counts} {t x : List ℕ} {n between : NodeNo} (a : Adding c₀ t₀ x₀ separator all ws c t x n between) where
  pub one-added : (w : List ℕ) (rest : List (List ℕ)) → ws ≡ w ∷ rest
      → {r : Made} {t' x' : List ℕ} → Joins c t x n between w r t' x'
      → {c' : Counts} {n' between' : NodeNo} → r ≡ Ok (c', n') → Is c₀ t₀ x₀ between' separator → Adding c₀ t₀ x₀ separator all rest c' t' x' n' between'
  unfolding on_doc
  one-added w rest are {r} {t'} {x'} joins {c'} {n'} is i =
      let d = append_doc (append_doc a.said a.next) (leaf_doc w) in
      record {
        said = d;
        next = separator;
        gives = subst (λ (z : Made). Gives c₀ t₀ x₀ z t' x' d) is (after a.gives refl (λ b. joins a.said a.next (new b) (kept b a.between_is)));
        between_is = i;
        rest = ap (on_doc separator a.said a.next) (sym are) ∙ a.rest;
      }

  pub all-added : ws ≡ [] → Gives c₀ t₀ x₀ (Ok (c, n)) t x all
  unfolding on_doc
  all-added none = subst (λ (d : Doc). Gives c₀ t₀ x₀ (Ok (c, n)) t x d) (sym (ap (on_doc separator a.said a.next) none) ∙ a.rest) a.gives

-- ---- the words of a text

-- from counts c₀ the words of a text are joined up to a place, where none is a Nil and softline a softline
pub record Filling (c₀ : Counts) (t₀ x₀ : List ℕ) (none softline : NodeNo) (s : List ℕ) (most at : ℕ) (c : Counts) (t x : List ℕ) (n between : NodeNo) : Type 0 where
  pub left : ℕ
  pub room : length s ≤ at + left
  pub adding : Is c₀ t₀ x₀ none nil → Is c₀ t₀ x₀ softline softline_doc → Adding c₀ t₀ x₀ softline_doc (filled_doc most s) (words_on most left (drop at s)) c t x n between

pub fill_start : (c : Counts) (t x : List ℕ) (none softline : NodeNo) (s : List ℕ) (most at : ℕ) → at ≡ skipped s 0 → Filling c t x none softline s most at c t x none none
unfolding filled_doc
fill_start c t x none softline s most at e =
    let first : at ≡ blanks s = omega arith in
    record {
      left = length s;
      room = omega arith;
      adding = λ i j. rw first (none-added c t x softline_doc (words_on most (length s) (drop (blanks s) s)) none i);
    }

module _ {c₀ : Counts} {t₀ x₀ : List ℕ} {none softline : NodeNo} {s : List ℕ} {most at : ℕ} {c : Counts} {t x : List ℕ} {n between : NodeNo} (f : Filling c₀ t₀ x₀ none softline s most at c t x n between) where
  pub fill-next : (size at' : ℕ) → at < length s → size ≡ together most (drop at s) → 0 < size → at' ≡ skipped s (at + size)
      → {r : Made} {t' x' : List ℕ} → Joins c t x n between (take (at + size - at) (drop at s)) r t' x'
      → {c' : Counts} {n' : NodeNo} → r ≡ Ok (c', n') → Filling c₀ t₀ x₀ none softline s most at' c' t' x' n' softline
  fill-next size at' h e some e' joins is =
      let same : at + size - at ≡ size = omega arith in
      record {
        left = f.left - 1;
        room = omega (arith, f.room);
        adding = λ i j. one-added (f.adding i j) (take (at + size - at) (drop at s)) (words_on most (f.left - 1) (drop at' s)) (rw same (words-next most f.left s at size at' h (omega (arith, f.room)) e e')) joins is j;
      }

  pub fill_end : length s ≤ at → Is c₀ t₀ x₀ none nil → Is c₀ t₀ x₀ softline softline_doc → Gives c₀ t₀ x₀ (Ok (c, n)) t x (filled_doc most s)
  fill_end h i j = all-added (f.adding i j) (ap (words_on most f.left) (done s at h) ∙ no_words most f.left)
