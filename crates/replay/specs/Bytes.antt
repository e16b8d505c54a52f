-- Numbers as bytes: each modulo 256.
use Rattle.std.specs.Prelude.{ℕ, ◌%◌, List, [], ◌∷◌}

unfoldable pub bytes_of : List ℕ → List ℕ
bytes_of [] = []
bytes_of (x ∷ xs) = (x % 256) ∷ bytes_of xs
