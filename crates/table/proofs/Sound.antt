-- A node without a fault is sound: what the readers of a table lean on (specs/Sound.antt).
--     sound_of             one node
--     all-sound_of         the first N nodes
--     all-sound_of-valid   a valid table
--     all-sound_of-check   a table that `check` answers 0 for
-- Assumes nothing.
use Prim.Native.Nat.{ℕ, zero, suc, ◌/◌}
use native.Mathlib.Omega.{arith}
use mathlib.Core.Path.{◌≡◌, refl}
use mathlib.Core.List.{List}
use lib.ListN.{length}
use Rattle.table.specs.Kinds.{kinds, kind_at}
use Rattle.table.specs.Node.{node_of, node_at}
use Rattle.table.specs.Fault.{fault_at, first_fault, check}
use Rattle.table.specs.Valid.{NodeRight, Valid}
use Rattle.table.specs.Sound.{Sound, AllSound}
use Rattle.table.proofs.Accept.{right_of, clean_of, valid_if-zero}

-- by its kind
sound-words : (text : List ℕ) (n k a b c : ℕ) → NodeRight text n k a b c → Sound (length text) n (node_of k a b c)
unfolding kind_at kinds
sound-words text n zero a b c r = tt
sound-words text n (suc zero) a b c r = (r.first-child (omega arith), r.second-child (omega arith))
sound-words text n (suc (suc zero)) a b c r = r.first-child (omega arith)
sound-words text n (suc (suc (suc zero))) a b c r = (r.first-child (omega arith), r.second-child (omega arith))
sound-words text n (suc (suc (suc (suc zero)))) a b c r = (r.first-child (omega arith), (r.nest refl).amount)
sound-words text n (suc (suc (suc (suc (suc zero))))) a b c r = tt
sound-words text n (suc (suc (suc (suc (suc (suc zero)))))) a b c r = ((r.text refl).inside, (r.text refl).columns)
sound-words text n (suc (suc (suc (suc (suc (suc (suc zero))))))) a b c r = r.first-child (omega arith)
sound-words text n (suc (suc (suc (suc (suc (suc (suc (suc zero)))))))) a b c r = (r.first-child (omega arith), r.second-child (omega arith))
sound-words text n (suc (suc (suc (suc (suc (suc (suc (suc (suc zero))))))))) a b c r = r.first-child (omega arith)
sound-words text n (suc (suc (suc (suc (suc (suc (suc (suc (suc (suc zero)))))))))) a b c r = tt
sound-words text n (suc (suc (suc (suc (suc (suc (suc (suc (suc (suc (suc k))))))))))) a b c r = absurd (omega (arith, r.known))

module _ (table text : List ℕ) where
  pub sound_of : (n : ℕ) → fault_at table text n ≡ 0 → Sound (length text) n (node_at table n)
  unfolding fault_at node_at
  sound_of n e = sound-words text n _ _ _ _ (right_of text n _ _ _ _ e)

  pub all-sound_of : (N : ℕ) → (first_fault table text N).answer ≡ 0 → AllSound table (length text) N
  all-sound_of N e n h = sound_of n (clean_of table text N e n h)

  pub all-sound_of-valid : Valid table text → AllSound table (length text) (length table / 4)
  unfolding node_at
  all-sound_of-valid r n h = sound-words text n _ _ _ _ (r.nodes n h)

  pub all-sound_of-check : (check table text).answer ≡ 0 → AllSound table (length text) (length table / 4)
  all-sound_of-check e = all-sound_of-valid (valid_if-zero table text e)
