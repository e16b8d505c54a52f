-- A text that is written from the front of a buffer, one part behind the other, up to a place. A place past the buffer's end says that the text has no
-- room in it.
use Rattle.std.specs.Prelude.{ℕ, suc, ◌-◌, ◌≤◌, min, ◌≡◌, List, ◌++◌, length, take, replicate}

-- the buffer holds this text up to a place, if there is room for it
pub record Holds (out : List ℕ) (at : ℕ) (text : List ℕ) : Type 0 where
  pub place : at ≡ min (length text) (suc (length out))
  pub front : at ≤ length out → take at out ≡ text

-- whatever text the buffer holds, it holds this behind it
pub record Adds (out : List ℕ) (at : ℕ) (more out' : List ℕ) (r : ℕ) : Type 0 where
  pub then : (text : List ℕ) → Holds out at text → Holds out' r (text ++ more)

-- a text, and 0 behind it up to n bytes
abbrev pub padded : ℕ → List ℕ → List ℕ
padded n text = text ++ replicate (n - length text) 0
