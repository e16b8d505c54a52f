-- The bases that lists are written in, and their digits.
use Rattle.std.specs.Prelude.{ℕ, nat_lt, Option, Some, None}
use Rattle.choice.specs.Pick.{pick}
use Rattle.replay.specs.declared.base.Base.{Base}
use Rattle.replay.specs.Numbers.{digit_of}

-- how many digits a base has
abbrev pub base_of : Base → ℕ
base_of base = base.value

-- what a byte is worth in a base, if it is a digit there
abbrev pub digit_in : ℕ → ℕ → Option ℕ
digit_in base b = pick (nat_lt (digit_of b) base) (Some (digit_of b)) None
