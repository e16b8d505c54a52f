-- What each constructor adds to a draft, where there is room for it. A composed one adds what its parts in order add.
use Rattle.std.specs.Prelude.{ℕ, ◌+◌, Bool, ◌&&◌, ◌||◌, List, [], ◌∷◌, length, take, drop, replicate, eqb, leb}
use Rattle.choice.specs.Pick.{pick}
use Rattle.table.specs.Node.{word}
use Rattle.buffer.specs.Utf8.{ascii}
use Rattle.build.specs.Draft.{Draft, Built, older, add, write}

-- ---- a node by itself

-- a Nil node is one by its kind word alone
abbrev pub is_nil : Draft → ℕ → Bool
is_nil s n = eqb (word s.table n 0) 0

-- Group gives back Group, Nil and Text whose range lies in the used text with all bytes below 128
unfoldable pub stays : Draft → ℕ → Bool
stays s n =
    let k = word s.table n 0 in
    let offset = word s.table n 1 in
    let size = word s.table n 2 in
    eqb k 0 || eqb k 2 || (eqb k 6 && leb (offset + size) (length s.text) && ascii (take size (drop offset s.text)))

abbrev pub nil : Draft → Built
nil s = add s 0 0 0 0

-- Append with a Nil node gives the other, left looked at first
unfoldable pub append : Draft → ℕ → ℕ → Built
append s a b = pick (is_nil s a) (older s b) (pick (is_nil s b) (older s a) (add s 1 a b 0))

unfoldable pub group : Draft → ℕ → Built
group s n = pick (stays s n) (older s n) (add s 2 n 0 0)

abbrev pub flat_alt : Draft → ℕ → ℕ → Built
flat_alt s broken flat = add s 3 broken flat 0

-- Nest gives back Nil, and anything at amount 0
unfoldable pub nest : Draft → ℕ → ℕ → ℕ → Built
nest s n amount way = pick (is_nil s n || eqb amount 0) (older s n) (add s 4 n amount way)

abbrev pub hardline : Draft → Built
hardline s = add s 5 0 0 0

-- empty text is Nil
unfoldable pub text : Draft → List ℕ → ℕ → Built
text s bytes columns = pick (eqb (length bytes) 0) (nil s) (add (write s bytes) 6 s.counts.bytes (length bytes) columns)

abbrev pub annotate : Draft → ℕ → ℕ → Built
annotate s n label = add s 7 n label 0

abbrev pub union : Draft → ℕ → ℕ → Built
union s first second = add s 8 first second 0

abbrev pub align : Draft → ℕ → Built
align s n = add s 9 n 0 0

abbrev pub fail : Draft → Built
fail s = add s 10 0 0 0

-- ---- composed

abbrev pub space : Draft → Built
space s = text s (32 ∷ []) 1

-- FlatAlt(Hardline, blank)
unfoldable pub line : Draft → Built
line s =
    let broken = hardline s in
    let flat = space broken.draft in
    flat_alt flat.draft broken.node flat.node

-- Nil for the blank
unfoldable pub line₀ : Draft → Built
line₀ s =
    let broken = hardline s in
    let flat = nil broken.draft in
    flat_alt flat.draft broken.node flat.node

unfoldable pub softline : Draft → Built
softline s = let l = line s in group l.draft l.node

unfoldable pub softline₀ : Draft → Built
softline₀ s = let l = line₀ s in group l.draft l.node

-- nests, then aligns
unfoldable pub hang : Draft → ℕ → ℕ → ℕ → Built
hang s n amount way = let nested = nest s n amount way in align nested.draft nested.node

-- one Text of blanks before the node, then hangs by as much
unfoldable pub indent : Draft → ℕ → ℕ → Built
indent s n by =
    let blanks = text s (replicate by 32) by in
    let joined = append blanks.draft blanks.node n in
    hang joined.draft joined.node by 0

unfoldable pub enclose : Draft → ℕ → ℕ → ℕ → Built
enclose s n before after = let first = append s before n in append first.draft first.node after

-- what stands, joined to each of a list in turn
unfoldable pub joined : Draft → ℕ → List ℕ → Built
joined s n [] = older s n
joined s n (m ∷ ms) = let next = append s n m in joined next.draft next.node ms

-- starts from the first; of none one Nil
unfoldable pub concat : Draft → List ℕ → Built
concat s [] = nil s
concat s (n ∷ ns) = joined s n ns

-- the separator before each but the first
unfoldable pub separated : ℕ → List ℕ → List ℕ
separated separator [] = []
separated separator (n ∷ ns) = separator ∷ n ∷ separated separator ns

unfoldable pub intersperse : Draft → List ℕ → ℕ → Built
intersperse s [] separator = nil s
intersperse s (n ∷ ns) separator = joined s n (separated separator ns)
