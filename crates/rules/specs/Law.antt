-- The laws of demand 3: what each says of documents, when two documents differ by one at one place, and what is claimed of two calls.
-- Assumes nothing.
use Rattle.std.specs.Prelude.{ℕ, ◌+◌, ◌≡◌}
use Rattle.table.specs.Node.{Way}
use Rattle.table.specs.Unfold.{tree, root}
use Rattle.table.specs.Document.{Doc, nil, append, group, flat_alt, nest, annotated, union, align, fail, doc}
use Rattle.rules.specs.Layout.{Report}
use Rattle.rules.specs.Call.{Given}

-- The listed laws: joins regroup; Nil drops from the left of a join; group in group; group and nest change places; two nests the same way add;
-- nest over align; align twice; unions regroup; Fail drops from a union's first arm; union of twins; flat choice of twins.
pub data Law : Doc → Doc → Type 0 where
  joins_regroup : (a b c : Doc) → Law (append (append a b) c) (append a (append b c))
  nil_drops : (a : Doc) → Law (append nil a) a
  group_in-group : (a : Doc) → Law (group (group a)) (group a)
  group-nest : (a : Doc) (k : ℕ) (w : Way) → Law (group (nest a k w)) (nest (group a) k w)
  nests-add : (a : Doc) (j k : ℕ) (w : Way) → Law (nest (nest a j w) k w) (nest a (j + k) w)
  nest-over-align : (a : Doc) (k : ℕ) (w : Way) → Law (nest (align a) k w) (align a)
  align-twice : (a : Doc) → Law (align (align a)) (align a)
  unions_regroup : (a b c : Doc) → Law (union (union a b) c) (union a (union b c))
  fail-drops : (a : Doc) → Law (union fail a) a
  union_twins : (a : Doc) → Law (union a a) a
  flat_alt_twins : (a : Doc) → Law (flat_alt a a) a

-- two documents that differ at one place, and there by R
pub data Within (R : Doc → Doc → Type 0) : Doc → Doc → Type 0 where
  here : {d e : Doc} → R d e → Within R d e
  in-append-first : {d e : Doc} (b : Doc) → Within R d e → Within R (append d b) (append e b)
  in-append-second : {d e : Doc} (a : Doc) → Within R d e → Within R (append a d) (append a e)
  in_group : {d e : Doc} → Within R d e → Within R (group d) (group e)
  in-flat_alt-broken : {d e : Doc} (b : Doc) → Within R d e → Within R (flat_alt d b) (flat_alt e b)
  in-flat_alt-flat : {d e : Doc} (a : Doc) → Within R d e → Within R (flat_alt a d) (flat_alt a e)
  in-nest : {d e : Doc} (k : ℕ) (w : Way) → Within R d e → Within R (nest d k w) (nest e k w)
  in-annotated : {d e : Doc} (l : ℕ) → Within R d e → Within R (annotated d l) (annotated e l)
  in-union-first : {d e : Doc} (b : Doc) → Within R d e → Within R (union d b) (union e b)
  in-union-second : {d e : Doc} (a : Doc) → Within R d e → Within R (union a d) (union a e)
  in-align : {d e : Doc} → Within R d e → Within R (align d) (align e)

-- either way round
pub data EitherWay (R : Doc → Doc → Type 0) : Doc → Doc → Type 0 where
  forth : {d e : Doc} → R d e → EitherWay R d e
  back : {d e : Doc} → R e d → EitherWay R d e

-- two documents that differ by one listed law at one place
abbrev pub Differ : Doc → Doc → Type 0
Differ d e = EitherWay (Within Law) d e

-- ---- two calls

-- what the table of a call unfolds to
abbrev pub document : Given → Doc
document g = doc (tree g.table g.text (root g.table))

-- not refused for sizes, steps or room
pub record Unrefused (r : Report) : Type 0 where
  pub for-sizes : r.answer ≡ 1 → ⊥
  pub for-steps : r.answer ≡ 7 → ⊥
  pub for-bytes : r.answer ≡ 8 → ⊥
  pub for-events : r.answer ≡ 9 → ⊥

-- the same answer, and the same bytes and events (both have none on a refusal)
pub record Alike (r s : Report) : Type 0 where
  pub answers : r.answer ≡ s.answer
  pub bytes : r.bytes ≡ s.bytes
  pub events : r.events ≡ s.events
