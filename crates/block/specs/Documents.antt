-- The document that a block layout unfolds to, as document 01 describes it.
use Rattle.std.specs.Prelude.{ℕ, zero, suc, Bool, true, ◌&&◌, List, [], ◌∷◌, length, take, drop, ltb}
use Rattle.choice.specs.Pick.{pick}
use Rattle.table.specs.Document.{Doc, nil, flat_alt, union, fail}
use Rattle.build.specs.Documents.{is_nil_doc, append_doc, group_doc, nest_doc, concat_doc}

unfoldable pub all_nil_doc : List Doc → Bool
all_nil_doc [] = true
all_nil_doc (d ∷ rest) = is_nil_doc d && all_nil_doc rest

-- more than one before, and every prefix a Nil
unfoldable pub bare_doc : List Doc → Bool
bare_doc before = ltb 1 (length before) && all_nil_doc before

-- FlatAlt of a Fail and a Nil: broken it gives the alternative up, flat it is nothing
abbrev pub guard_doc : Doc
guard_doc = flat_alt fail nil

abbrev pub guarded_doc : Doc → Bool → Doc
guarded_doc d asked = pick asked (append_doc d guard_doc) d

-- a group of before's prefixes joined, then the guard if there is more than one
unfoldable pub head_doc : List Doc → Doc
head_doc before = group_doc (guarded_doc (concat_doc before) (ltb 1 (length before)))

-- a group of Core and before's suffixes
unfoldable pub tail_doc : Doc → List Doc → Doc
tail_doc d before = group_doc (append_doc d (concat_doc before))

module _ (amount way : ℕ) where
  -- body, joined to the guard if asked, nested by the amount, then after's suffixes
  unfoldable pub core_doc : Doc → Bool → List Doc → Doc
  core_doc body asked after = append_doc (nest_doc (guarded_doc body asked) amount way) (concat_doc after)

  -- a prefix joined before what stands, nested if flagged, grouped
  unfoldable pub wrap_doc : Doc → Doc → Bool → Doc
  wrap_doc d prefix flag = group_doc (pick flag (nest_doc (append_doc prefix d) amount way) (append_doc prefix d))

  -- from the last of after to the first
  unfoldable pub wraps_doc : Doc → List Doc → List Bool → Doc
  wraps_doc d [] flags = d
  wraps_doc d (p ∷ ps) [] = d
  wraps_doc d (p ∷ ps) (q ∷ qs) = wrap_doc (wraps_doc d ps qs) p q

  module _ (body : Doc) (prefixes suffixes : List Doc) (nests : List Bool) where
    -- Head joined to Tail, where "before" is the first so many affixes
    unfoldable pub alternative_doc : ℕ → Doc
    alternative_doc split =
        let before = take split prefixes in
        let inner = core_doc body (bare_doc before) (drop split suffixes) in
        append_doc (head_doc before) (tail_doc (wraps_doc inner (drop split prefixes) (drop split nests)) (take split suffixes))

    -- unions lean left: what stands, then one affix fewer before
    unfoldable pub unions_doc : Doc → ℕ → Doc
    unions_doc d zero = d
    unions_doc d (suc split) = unions_doc (union d (alternative_doc (suc split))) split

-- none gives the body; else all affixes before first, and down to one
unfoldable pub block_doc : ℕ → ℕ → Doc → List Doc → List Doc → List Bool → Doc
block_doc amount way body [] suffixes nests = body
block_doc amount way body (p ∷ ps) suffixes nests =
    unions_doc amount way body (p ∷ ps) suffixes nests (alternative_doc amount way body (p ∷ ps) suffixes nests (suc (length ps))) (length ps)
