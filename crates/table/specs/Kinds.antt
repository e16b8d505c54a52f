-- The kinds of document 01: the number of each, and the fixed table of how many children it has and how many words it uses.
-- Children come first among the words a, b, c, and so do the words used.
use Rattle.std.specs.Prelude.{List, [], ◌∷◌, ℕ, ◌≤◌, ◌≡◌, get_or, Result, MatchResult}
use Rattle.table.specs.declared.kind.KindInfo.{KindInfo}
use Rattle.table.specs.declared.kind.Kind.{Kind}
use Rattle.table.specs.declared.kind.Kind.TheVariants.{Nil, Append, Group, FlatAlt, Nest, Hardline, Text, Annotated, Union, Align, Fail}
use Rattle.table.specs.declared.refusal.Refusal.{Refusal}
use Rattle.table.specs.declared.refusal.Refusal.TheVariants.{BadKind}

-- document 01's number for each kind
abbrev pub kind_number : Kind → ℕ
kind_number Nil = 0
kind_number Append = 1
kind_number Group = 2
kind_number FlatAlt = 3
kind_number Nest = 4
kind_number Hardline = 5
kind_number Text = 6
kind_number Annotated = 7
kind_number Union = 8
kind_number Align = 9
kind_number Fail = 10

-- the kind with this number, or answer 2 where there is none
abbrev pub Decodes : ℕ → Result Kind Refusal → Type 0
Decodes word r = MatchResult r (λ kind. kind_number kind ≡ word) (λ why. (why ≡ BadKind) × (11 ≤ word))

abbrev pub kind : ℕ → ℕ → KindInfo
kind children words = record { children = children; words = words }

-- 0 Nil, 1 Append, 2 Group, 3 FlatAlt, 4 Nest, 5 Hardline, 6 Text, 7 Annotated, 8 Union, 9 Align, 10 Fail
unfoldable pub kinds : List KindInfo
kinds =
    kind 0 0
    ∷ kind 2 2
    ∷ kind 1 1
    ∷ kind 2 2
    ∷ kind 1 3
    ∷ kind 0 0
    ∷ kind 0 3
    ∷ kind 1 2
    ∷ kind 2 2
    ∷ kind 1 1
    ∷ kind 0 0
    ∷ []

-- the entry of kind k; one that uses nothing for an unknown kind
unfoldable pub kind_at : ℕ → KindInfo
kind_at k = get_or kinds k (kind 0 0)
