-- A row that is written from the front: bytes put at a place, and blanks behind what is written.
use Rattle.std.specs.Prelude.{ℕ, ◌+◌, ◌-◌, ◌≡◌, List, ◌++◌, length, take, replicate}
use Rattle.buffer.specs.Run.{put}

-- bytes put at a place, as far as there is room for them; and the place behind them
pub record Placed (out : List ℕ) (at : ℕ) (bytes out' : List ℕ) (r : ℕ) : Type 0 where
  pub all : out' ≡ put out at (take (length out - at) bytes)
  pub end : r ≡ at + length (take (length out - at) bytes)

-- so many bytes are written, and blanks stand behind them
pub record Written (out : List ℕ) (n : ℕ) (bytes : List ℕ) : Type 0 where
  pub all : out ≡ bytes ++ replicate (length out - n) 32
  pub size : length bytes ≡ n

-- whatever is written, this is written behind it, as far as there is room
abbrev pub Adds : List ℕ → ℕ → List ℕ → List ℕ → ℕ → Type 0
Adds out at more out' r = (bytes : List ℕ) → Written out at bytes → Written out' r (take (length out) (bytes ++ more))
