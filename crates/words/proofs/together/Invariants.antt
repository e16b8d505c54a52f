-- `words::together` meets its contract: words that stay together end where they end from here on. Assumes nothing.
use Prim.Native.Nat.{◌≤◌}
use mathlib.Core.Path.{◌≡◌}
use lib.ListN.{drop}
use Rattle.words.specs.Words.{together_on, together}
use Rattle.words.proofs.Cutting.{place, Behind}
use Rattle.words.proofs.together.Given as goal

abbrev pub invariant-loop-i : goal.invariant-loop-i
invariant-loop-i l = (l.wide ≤ l.i) × Behind l.i l.blank × (together_on l.most l.wide (place l.blank) l.i (drop l.i l.s) ≡ together l.most l.s)
