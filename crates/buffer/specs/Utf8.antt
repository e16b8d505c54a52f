-- Well-formed UTF-8 by RFC 3629, section 4: the octets that may follow each first octet. Then tests of every octet: below 128, no line feed.
use Rattle.std.specs.Prelude.{ℕ, Bool, true, false, not, ◌&&◌, List, [], ◌∷◌, eqb, leb, ltb}
use Rattle.choice.specs.Pick.{pick}

-- a range of octets, both ends in it
pub record Range : Type 0 where
  pub low : ℕ
  pub high : ℕ

abbrev pub to : ℕ → ℕ → Range
to low high = record { low = low; high = high }

abbrev pub within : Range → ℕ → Bool
within r b = leb r.low b && leb b r.high

-- UTF8-tail
abbrev pub tail : Range
tail = to 0x80 0xBF

-- how a character goes on after its first octet, or that none starts with it
pub data Start : Type 0 where
  follow : List Range → Start
  never : Start

-- UTF8-1, UTF8-2, UTF8-3, UTF8-4
abbrev pub start : ℕ → Start
start b =
    pick (within (to 0x00 0x7F) b) (follow [])
    (pick (within (to 0xC2 0xDF) b) (follow (tail ∷ []))
    (pick (within (to 0xE0 0xE0) b) (follow (to 0xA0 0xBF ∷ tail ∷ []))
    (pick (within (to 0xE1 0xEC) b) (follow (tail ∷ tail ∷ []))
    (pick (within (to 0xED 0xED) b) (follow (to 0x80 0x9F ∷ tail ∷ []))
    (pick (within (to 0xEE 0xEF) b) (follow (tail ∷ tail ∷ []))
    (pick (within (to 0xF0 0xF0) b) (follow (to 0x90 0xBF ∷ tail ∷ tail ∷ []))
    (pick (within (to 0xF1 0xF3) b) (follow (tail ∷ tail ∷ tail ∷ []))
    (pick (within (to 0xF4 0xF4) b) (follow (to 0x80 0x8F ∷ tail ∷ tail ∷ []))
    never))))))))

-- whether the octets are what is still owed of a character, and then whole characters
unfoldable pub owed : List Range → List ℕ → Bool
owed [] [] = true
owed [] (b ∷ bs) = elim (start b) [ follow rs ↦ owed rs bs | never ↦ false ]
owed (r ∷ rs) [] = false
owed (r ∷ rs) (b ∷ bs) = within r b && owed rs bs

unfoldable pub well_formed : List ℕ → Bool
well_formed bs = owed [] bs

-- whether every octet passes a test
unfoldable pub every : (ℕ → Bool) → List ℕ → Bool
every f [] = true
every f (b ∷ bs) = f b && every f bs

-- all octets below 128
unfoldable pub ascii : List ℕ → Bool
ascii bs = every (λ b. ltb b 128) bs

-- no line feed among them
unfoldable pub no_feed : List ℕ → Bool
no_feed bs = every (λ b. not (eqb b 10)) bs
