-- Laws of a block's flags: byte after byte, and more flags than affixes are refused.
-- Assumes nothing.
use mathlib.Core.Path.{◌≡◌, refl, ap, ◌∙◌}
use mathlib.Core.Bool.{Bool, true, false, not, ◌&&◌}
use mathlib.Core.List.{List, [], ◌∷◌}
use Prim.Native.Nat.{ℕ, zero, suc, ◌<◌, ◌≤◌}
use native.Mathlib.Omega.{arith}
use lib.Dec.{eqb, leb}
use lib.ListN.{length, take, drop, set, get_or}
use borrow.Author.Tests.{leb-true, ne_eqb}
use Rattle.build.specs.declared.Counts.{Counts}
use Rattle.build.specs.Outcome.{Made}
use Rattle.build.specs.Draft.{counts_of}
use Rattle.build.specs.Outcome.{Outcome, outcome}
use Rattle.build.specs.declared.Why.TheVariants.{Sizes}
use Rattle.std.specs.Prelude.{Err}
use Rattle.block.specs.declared.Block.{Block}
use Rattle.block.specs.Block.{sizes_right, format_made}
use Rattle.block.proofs.Alternatives.{format_sizes}
use Rattle.pursegable.specs.Building.{counts_words, left, answer_of, counts_after, built, flags_of}
use Rattle.pursegable.proofs.Making.{built-left}

pub length-flags : (bs : List ℕ) → length (flags_of bs) ≡ length bs
unfolding flags_of
length-flags [] = refl
length-flags (b ∷ bs) = ap suc (length-flags bs)

pub flags-more : (i : ℕ) (bs : List ℕ) (fs : List Bool) → i < length bs → i < length fs → take i fs ≡ flags_of (take i bs)
    → take (suc i) (set fs i (not (eqb (get_or bs i 0) 0))) ≡ flags_of (take (suc i) bs)
unfolding flags_of
flags-more i [] fs h k e = absurd (omega arith)
flags-more i (b ∷ bs) [] h k e = absurd (omega arith)
flags-more zero (b ∷ bs) (f ∷ fs) h k e = refl
flags-more (suc i) (b ∷ bs) (f ∷ fs) h k e =
    let first : f ≡ not (eqb b 0) = ap (λ (l : List Bool). get_or l 0 false) e in
    let rest : take i fs ≡ flags_of (take i bs) = ap (drop 1) e in
    ap (λ (q : Bool). q ∷ take (suc i) (set fs i (not (eqb (get_or bs i 0) 0)))) first
    ∙ ap (λ (l : List Bool). not (eqb b 0) ∷ l) (flags-more i bs fs (omega arith) (omega arith) rest)

-- too many flags: not as many as affixes, or too many of those
pub flags_many : (prefixes suffixes flags : ℕ) → 8 < flags → sizes_right prefixes suffixes flags ≡ false
flags_many prefixes suffixes flags h = go (leb prefixes 8) refl where
  none : (q : Bool) → (q && false) ≡ false
  none true = refl
  none false = refl

  go : (few : Bool) → leb prefixes 8 ≡ few → sizes_right prefixes suffixes flags ≡ false
  go true e = let few = leb-true prefixes 8 e in rw (e, ne_eqb flags prefixes (λ q. absurd (omega arith))) (none (eqb suffixes prefixes))
  go false e = rw e refl

-- answer 1, before the flags are read; else what `format` answers
module _ (b : Block) (prefixes suffixes nests t x cs : List ℕ) where
  abbrev made : Counts → List ℕ → List ℕ → Outcome
  made c t x = format_made c t x b prefixes suffixes (flags_of nests)

  pub block_many : counts_words ≤ length cs → 8 < length nests → left 1 t x cs ≡ built made t x cs
  block_many h k =
      let many : 8 < length (flags_of nests) = rw (length-flags nests) k in
      built-left made t x cs {made = Err Sizes} h refl
      (format_sizes _ t x b prefixes suffixes (flags_of nests) (flags_many (length prefixes) (length suffixes) (length (flags_of nests)) many))
      (refl, refl)

  pub block-left : {s : Counts} {made' : Made} {t' x' cs' : List ℕ} {r : ℕ} {flags : List Bool} → counts_words ≤ length cs → s ≡ counts_of (get_or cs 0 0) (get_or cs 1 0)
      → flags ≡ flags_of nests
      → outcome made' t' x' ≡ format_made s t x b prefixes suffixes flags → (r ≡ answer_of made') × (cs' ≡ counts_after made' cs)
      → left r t' x' cs' ≡ built made t x cs
  block-left {s} h is e o settled = built-left made t x cs h is (o ∙ ap (λ (q : List Bool). format_made s t x b prefixes suffixes q) e) settled
