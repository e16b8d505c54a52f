-- The laws of a text read line by line, over plain lists.
--     first_line, no_lines          the first line and those after it; none
--     Line, line_at                 the line that starts at a place, where the lines from there on are known
--     lines-within                  there are no more lines than bytes
-- Assumes nothing.
use Prim.Native.Nat.{ℕ, suc, ◌+◌, ◌-◌, ◌≤◌, ◌<◌}
use native.Mathlib.Omega.{arith}
use native.Mathlib.Decide.{dec_lt}
use mathlib.Core.Path.{◌≡◌, refl, sym, ap, ◌∙◌}
use mathlib.Core.Bool.{Bool, true, false}
use mathlib.Core.List.{List, [], ◌∷◌}
use lib.ListN.{length, take, drop, length-drop}
use lib.Seq.{length-take-le}
use lib.Dec.{eqb}
use Rattle.choice.specs.Pick.{pick}
use Rattle.buffer.specs.Parts.{between, index_of, before, lines, LineEnds}
use Rattle.buffer.proofs.Reading.{done, line_first, index-within}

-- a text that is not empty has a first line, and the others start behind its end
pub first_line : (s : List ℕ) (end : ℕ) (others : List ℕ) → 0 < length s → end ≡ 0 + index_of 10 (drop 0 s) → others ≡ drop (end + 1) s → lines s ≡ take end s ∷ lines others
first_line s end others h e f = let k : 0 + index_of 10 s ≡ index_of 10 s = omega arith in rw (f, e, k) (rw k at (line_first s 0 h))

pub no_lines : (s : List ℕ) → length s ≡ 0 → lines s ≡ []
unfolding lines
no_lines [] h = refl
no_lines (b ∷ s) h = absurd (omega arith)

-- a line that starts at a place: where it ends, and that the others start behind its line feed
pub record Line (s : List ℕ) (at : ℕ) (l : List ℕ) (ls : List (List ℕ)) : Type 0 where
  pub ends : LineEnds s at (at + length l)
  pub some : at < length s
  pub is : l ≡ between s at (at + length l)
  pub others : ls ≡ lines (drop (at + length l + 1) s)

-- the first of the lines from a place on is the line that starts there
pub line_at : (s : List ℕ) (at : ℕ) (l : List ℕ) (ls : List (List ℕ)) → lines (drop at s) ≡ l ∷ ls → Line s at l ls
unfolding lines
line_at s at l ls e = go (dec_lt at (length s))
  where
    k : ℕ
    k = index_of 10 (drop at s)

    go : Dec (at < length s) → Line s at l ls
    go (no h) = let z : [] ≡ l ∷ ls = sym (ap lines (done s at (omega arith))) ∙ e in absurd (let n = ap length z in omega arith)
    go (yes h) =
        let same : take k (drop at s) ∷ lines (drop (at + k + 1) s) ≡ l ∷ ls = sym (line_first s at h) ∙ e in
        let line : take k (drop at s) ≡ l = cc in
        let rest : lines (drop (at + k + 1) s) ≡ ls = cc in
        let within : k ≤ length (drop at s) = index-within 10 (drop at s) in
        let size : k ≡ length l = sym (length-take-le k (drop at s) within) ∙ ap length line in
        let span : at + length l - at ≡ k = omega arith in
        record {
          ends = record { is = omega (arith, size); ahead = omega arith; within = omega (arith, size, within, length-drop at s) };
          some = h;
          is = sym line ∙ ap (λ (n : ℕ). take n (drop at s)) (sym span);
          others = sym rest ∙ ap (λ (n : ℕ). lines (drop (at + n + 1) s)) size;
        }

-- a line has a byte, or a line feed behind it
pub lines-within : (s : List ℕ) → length (lines s) ≤ length s
unfolding lines
lines-within [] = omega arith
lines-within (b ∷ s) = go (eqb b 10) (lines s) (lines-within s)
  where
    go : (t : Bool) (ls : List (List ℕ)) → length ls ≤ length s → length (pick t ([] ∷ ls) (before b ls)) ≤ suc (length s)
    go true ls h = omega arith
    go false [] h = omega arith
    go false (l ∷ ls) h = omega arith
