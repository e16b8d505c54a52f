-- Where a mark is open on the output.
use Rattle.std.specs.Prelude.{ℕ, ◌+◌, ◌-◌, Bool, List, [], ◌∷◌, eqb, ltb}
use Rattle.choice.specs.Pick.{pick}

-- how many marks are open at an offset, of the events in order, three words each: offset, 1 opens and 0 closes, label
unfoldable pub open_at : ℕ → List ℕ → ℕ → ℕ
open_at n [] at = n
open_at n (offset ∷ []) at = n
open_at n (offset ∷ mark ∷ []) at = n
open_at n (offset ∷ mark ∷ label ∷ events) at = pick (ltb at offset) n (open_at (pick (eqb mark 1) (n + 1) (n - 1)) events at)

unfoldable pub marked_at : List ℕ → ℕ → Bool
marked_at events at = ltb 0 (open_at 0 events at)
