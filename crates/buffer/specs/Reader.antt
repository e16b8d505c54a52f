-- The reader's state, as Utf8.antt has it.
use Rattle.std.specs.Prelude.{ℕ, zero, suc, ◌≡◌, Bool, false, List, [], ◌∷◌, Option, Some, None, replicate}
use Rattle.buffer.specs.Utf8.{Range, to, tail, Start, follow, never, owed}
use Rattle.buffer.specs.declared.utf8.Owing.{Owing}

-- so many octets, the first between low and high, the others tails
abbrev pub owing : ℕ → ℕ → ℕ → List Range
owing zero low high = []
owing (suc n) low high = to low high ∷ replicate n tail

abbrev pub ranges : Owing → List Range
ranges o = owing o.count o.low o.high

-- what a first octet owes
abbrev pub starts : Option Owing → Start
starts (Some o) = follow (ranges o)
starts None = never

-- whether the octets are what is owed
abbrev pub goes_on : Option Owing → List ℕ → Bool
goes_on (Some o) bs = owed (ranges o) bs
goes_on None bs = false

-- what r says of an octet b where o is owed, whatever follows
abbrev pub GoesOn : Owing → ℕ → Option Owing → Type 0
GoesOn o b r = (bs : List ℕ) → owed (ranges o) (b ∷ bs) ≡ goes_on r bs
