-- What a block layout adds, in document 01's order, said by what the constructors add; Head and Tail are in Affixes.
use Rattle.std.specs.Prelude.{ℕ, zero, suc, Bool, true, ◌&&◌, List, [], ◌∷◌, length, take, drop, eqb, leb}
use Rattle.choice.specs.Pick.{pick}
use Rattle.build.specs.declared.Counts.{Counts}
use Rattle.build.specs.declared.Why.TheVariants.{Sizes}
use Rattle.build.specs.Draft.{Draft, Built, older}
use Rattle.build.specs.Parts.{nil, append, group, flat_alt, nest, union, fail}
use Rattle.build.specs.Outcome.{Outcome, refused, made}
use Rattle.build.specs.Constructors.{has, has_all, nest_right}
use Rattle.block.specs.declared.Shared.{Shared}
use Rattle.block.specs.Affixes.{list, bare, guarded, head, tail}
use Rattle.block.specs.declared.Block.{Block}

-- a node, nested by the amount if flagged
unfoldable pub nested : Draft → Block → ℕ → Bool → Built
nested s b n flag = pick flag (nest s n b.amount.0 b.way) (older s n)

-- body, joined to the guard if asked, nested by the amount, then after's suffixes
unfoldable pub core : Draft → Block → Shared → Bool → List ℕ → Built
core s b sh asked after =
    let joined = guarded s sh b.body.0 asked in
    let inner = nested joined.draft b joined.node true in
    let suffixes = list inner.draft sh.none.0 after in
    append suffixes.draft inner.node suffixes.node

-- a prefix joined before what stands, nested if flagged, grouped
unfoldable pub wrap : Draft → Block → ℕ → ℕ → Bool → Built
wrap s b n prefix flag =
    let joined = append s prefix n in
    let inner = nested joined.draft b joined.node flag in
    group inner.draft inner.node

-- from the last of after to the first
unfoldable pub wraps : Draft → Block → ℕ → List ℕ → List Bool → Built
wraps s b n [] flags = older s n
wraps s b n (p ∷ ps) [] = older s n
wraps s b n (p ∷ ps) (q ∷ qs) =
    let inner = wraps s b n ps qs in
    wrap inner.draft b inner.node p q

-- Head joined to Tail, where "before" is the first so many affixes
unfoldable pub alternative : Draft → Block → Shared → List ℕ → List ℕ → List Bool → ℕ → Built
alternative s b sh prefixes suffixes nests split =
    let before = take split prefixes in
    let front = head s sh before in
    let middle = core front.draft b sh (bare front.draft before) (drop split suffixes) in
    let wrapped = wraps middle.draft b middle.node (drop split prefixes) (drop split nests) in
    let back = tail wrapped.draft sh wrapped.node (take split suffixes) in
    append back.draft front.node back.node

-- the alternatives from so many affixes before down to 1, each in a union with what stands
unfoldable pub unions : Draft → Block → Shared → List ℕ → List ℕ → List Bool → ℕ → ℕ → Built
unions s b sh prefixes suffixes nests n zero = older s n
unions s b sh prefixes suffixes nests n (suc split) =
    let other = alternative s b sh prefixes suffixes nests (suc split) in
    let both = union other.draft n other.node in
    unions both.draft b sh prefixes suffixes nests both.node split

-- one Nil, one Fail and the guard first; then all affixes before, and down to one
unfoldable pub layouts : Draft → Block → List ℕ → List ℕ → List Bool → ℕ → Built
layouts s b prefixes suffixes nests others =
    let none = nil s in
    let failing = fail none.draft in
    let guard = flat_alt failing.draft failing.node none.node in
    let sh : Shared = record { none = record { 0 = none.node }; guard = record { 0 = guard.node } } in
    let first = alternative guard.draft b sh prefixes suffixes nests (suc others) in
    unions first.draft b sh prefixes suffixes nests first.node others

-- none gives the body and builds nothing
unfoldable pub block_of : Draft → Block → List ℕ → List ℕ → List Bool → Built
block_of s b [] suffixes nests = older s b.body.0
block_of s b (p ∷ ps) suffixes nests = layouts s b (p ∷ ps) suffixes nests (length ps)

-- what is built at least: nothing without affixes, else the Nil, the Fail and the guard
abbrev pub least : ℕ → ℕ
least affixes = pick (eqb affixes 0) 0 3

-- at most 8 affixes, each with a prefix, a suffix and a flag
abbrev pub sizes_right : ℕ → ℕ → ℕ → Bool
sizes_right prefixes suffixes nests = leb prefixes 8 && eqb suffixes prefixes && eqb nests prefixes

abbrev pub operands : Counts → Block → List ℕ → List ℕ → Bool
operands c b prefixes suffixes = has c b.body.0 && (has_all c prefixes && has_all c suffixes)

-- what is answered and left
unfoldable pub format_made : Counts → List ℕ → List ℕ → Block → List ℕ → List ℕ → List Bool → Outcome
format_made c table text b prefixes suffixes nests =
    pick (sizes_right (length prefixes) (length suffixes) (length nests))
    (made c table text (operands c b prefixes suffixes) (nest_right b.amount.0 b.way) true (λ s. block_of s b prefixes suffixes nests))
    (refused Sizes table text)
