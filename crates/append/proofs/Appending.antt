-- The laws of writing one behind the other.
--     holds-none                nothing is written yet
--     kept-over, over, placed   a text that had no room, one that has none now, and one that has
--     then-adds                 one part behind the other
--     fits, over_long           whether a text had room, by its place
--     padded-is                 a text with 0 behind it
-- Assumes nothing.
use Prim.Native.Nat.{ℕ, ◌+◌, ◌-◌, ◌≤◌, ◌<◌}
use native.Mathlib.Omega.{arith}
use mathlib.Core.Path.{◌≡◌, refl, sym, ap, ap₂, ◌∙◌, subst}
use mathlib.Core.List.{List, [], ◌++◌, append_assoc}
use lib.ListN.{length, take, drop, replicate, length-append}
use lib.Seq.{take_all}
use Rattle.buffer.specs.Run.{put, zeroed}
use Rattle.buffer.proofs.Put.{take_put, length-put}
use Rattle.append.specs.Append.{Holds, Adds, padded}

pub holds-none : (out : List ℕ) → Holds out 0 []
holds-none out = record { place = omega arith; front = λ h. refl }

module _ (out : List ℕ) (at : ℕ) (more : List ℕ) where
  pub kept-over : length out < at → Adds out at more out at
  kept-over h = record {
    then = λ text w. record { place = omega (arith, w.place, length-append text more); front = λ k. absurd (omega arith) };
  }

  pub over : at ≤ length out → length out - at < length more → Adds out at more out (length out + 1)
  over h k = record {
    then = λ text w. record { place = omega (arith, w.place, length-append text more); front = λ j. absurd (omega arith) };
  }

  pub placed : at ≤ length out → length more ≤ length out - at → (out' : List ℕ) → out' ≡ put out at (take (length more) (drop 0 more)) → Adds out at more out' (at + length more)
  placed h k out' e =
      let all : take (length more) (drop 0 more) ≡ more = take_all (length more) more (omega arith) in
      let is : out' ≡ put out at more = e ∙ ap (put out at) all in
      let same : length out' ≡ length out = ap length is ∙ length-put out at more (length more) refl (omega arith) in
      record {
        then = λ text w. record {
          place = omega (arith, w.place, length-append text more);
          front = λ j. ap (take (at + length more)) is ∙ take_put out at more (length more) refl (omega arith) ∙ ap (λ (l : List ℕ). l ++ more) (w.front h);
        };
      }

pub then-adds : {out out' out'' a b : List ℕ} {at r s : ℕ} → Adds out at a out' r → Adds out' r b out'' s → Adds out at (a ++ b) out'' s
then-adds {out'' = out''} {a = a} {b = b} {s = s} f g = record {
  then = λ text w. subst (Holds out'' s) (append_assoc text a b) (g.then (text ++ a) (f.then text w));
}

-- what is written, said another way
pub adds_same : {out out' a b : List ℕ} {at r : ℕ} → Adds out at a out' r → a ≡ b → Adds out at b out' r
adds_same {out} {out'} {at = at} {r = r} f e = subst (λ (l : List ℕ). Adds out at l out' r) e f

-- ---- the whole buffer

module _ {out : List ℕ} {at : ℕ} {text : List ℕ} (w : Holds out at text) where
  pub fits : at ≤ length out → (length text ≡ at) × (length text ≤ length out)
  fits h = let e : length text ≡ at = omega (arith, w.place) in (e, omega arith)

  pub over_long : length out < at → length out < length text
  over_long h = omega (arith, w.place)

  -- what stands behind the text is 0 now
  pub padded-is : at ≤ length out → (out' : List ℕ) → out' ≡ zeroed out at → out' ≡ padded (length out) text
  padded-is h out' e =
      let size = (fits h).0 in
      e ∙ ap₂ (λ (l : List ℕ) (n : ℕ). l ++ replicate (length out - n) 0) (w.front h) (sym size)
