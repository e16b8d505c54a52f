-- A list of numbers: what is no digit separates numbers, and `7*40` stands for 40 times 7.
use Rattle.std.specs.Prelude.{ℕ, suc, ◌+◌, ◌-◌, ◌*◌, ◌%◌, ◌&&◌, List, [], ◌∷◌, ◌++◌, length, take, replicate, ◌==◌, nat_le, nat_lt}
use Rattle.buffer.specs.Run.{put}
use Rattle.choice.specs.Pick.{pick}

-- the value of a digit, 0 to 9 and a to f; 16 for no digit
abbrev pub digit_of : ℕ → ℕ
digit_of b = pick (nat_le 48 b && nat_le b 57) (b - 48) (pick (nat_le 97 b && nat_le b 102) (b - 87) 16)

-- a number with one digit more, modulo 2^32
abbrev pub further : ℕ → ℕ → ℕ → ℕ
further base v d = (v * base + d) % 4294967296

-- digits below the base go on with a number: the number, and how many there are
unfoldable pub value_of : ℕ → ℕ → List ℕ → ℕ
value_of base v [] = v
value_of base v (b ∷ bs) = pick (nat_lt (digit_of b) base) (value_of base (further base v (digit_of b)) bs) v

unfoldable pub digits : ℕ → List ℕ → ℕ
digits base [] = 0
digits base (b ∷ bs) = pick (nat_lt (digit_of b) base) (suc (digits base bs)) 0

-- where a reader of a list stands: between numbers, in a number, or in how many times a number stands there
pub data Place : Type 0 where
  between : Place
  value : ℕ → Place
  times : ℕ → ℕ → Place

-- the numbers of a list that is read on from a place; how often a number stands there is decimal in any base
module _ (base : ℕ) where
  unfoldable pub listed : Place → List ℕ → List ℕ
  listed between [] = []
  listed (value v) [] = v ∷ []
  listed (times v n) [] = replicate n v
  listed between (b ∷ bs) = pick (nat_lt (digit_of b) base) (listed (value (digit_of b)) bs) (listed between bs)
  listed (value v) (b ∷ bs) = pick (nat_lt (digit_of b) base) (listed (value (further base v (digit_of b))) bs) (pick (b == 42) (listed (times v 0) bs) (v ∷ listed between bs))
  listed (times v n) (b ∷ bs) = pick (nat_lt (digit_of b) 10) (listed (times v (further 10 n (digit_of b))) bs) (replicate n v ++ pick (nat_lt (digit_of b) base) (listed (value (digit_of b)) bs) (listed between bs))

-- as many of them as there is room for behind what a buffer has; the buffer with them, and how many it has then
abbrev pub fitting : List ℕ → ℕ → List ℕ → List ℕ
fitting out count l = take (length out - count) l

abbrev pub stored : List ℕ → ℕ → List ℕ → List ℕ
stored out count l = put out count (fitting out count l)

abbrev pub count_after : List ℕ → ℕ → List ℕ → ℕ
count_after out count l = count + length (fitting out count l)
