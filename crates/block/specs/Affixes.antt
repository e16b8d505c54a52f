-- What lists of affixes add, Head and Tail of an alternative, said by what the constructors add.
use Rattle.std.specs.Prelude.{ℕ, Bool, true, ◌&&◌, List, [], ◌∷◌, length, ltb}
use Rattle.choice.specs.Pick.{pick}
use Rattle.build.specs.Draft.{Draft, Built, older}
use Rattle.build.specs.Parts.{is_nil, append, group, concat}
use Rattle.block.specs.declared.Shared.{Shared}

-- a list joined by itself as `concat` does; an empty one is the shared Nil
unfoldable pub list : Draft → ℕ → List ℕ → Built
list s none [] = older s none
list s none (n ∷ ns) = concat s (n ∷ ns)

unfoldable pub all_nil : Draft → List ℕ → Bool
all_nil s [] = true
all_nil s (n ∷ ns) = is_nil s n && all_nil s ns

-- more than one before, and every prefix a Nil node
unfoldable pub bare : Draft → List ℕ → Bool
bare s before = ltb 1 (length before) && all_nil s before

-- a node, joined to the guard if asked
unfoldable pub guarded : Draft → Shared → ℕ → Bool → Built
guarded s sh n asked = pick asked (append s n sh.guard.0) (older s n)

-- a group of before's prefixes joined, then the guard if there is more than one
unfoldable pub head : Draft → Shared → List ℕ → Built
head s sh before =
    let joined = list s sh.none.0 before in
    let whole = guarded joined.draft sh joined.node (ltb 1 (length before)) in
    group whole.draft whole.node

-- a group of Core and before's suffixes
unfoldable pub tail : Draft → Shared → ℕ → List ℕ → Built
tail s sh n before =
    let suffixes = list s sh.none.0 before in
    let joined = append suffixes.draft n suffixes.node in
    group joined.draft joined.node
