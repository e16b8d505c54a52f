-- What the functions that build nodes promise, over what table and text hold before and after.
use Rattle.std.specs.Prelude.{ℕ, ◌<◌, ◌≡◌, List}
use Rattle.table.specs.Document.{Doc, nil, hardline}
use Rattle.table.specs.declared.NodeNo.{NodeNo}
use Rattle.build.specs.declared.Counts.{Counts}
use Rattle.build.specs.Outcome.{Made}
use Rattle.build.specs.Outcome.{outcome}
use Rattle.build.specs.Documents.{line_doc, softline_doc}
use Rattle.build.specs.Promise.{doc_at, Promise}
use Rattle.words.specs.declared.Shared.{Shared}

-- a present node unfolds to a document
pub record Is (c : Counts) (table text : List ℕ) (n : NodeNo) (d : Doc) : Type 0 where
  pub there : n.0 < c.nodes
  pub unfolds : doc_at c table text n.0 ≡ d

-- the shared nodes are what they are called
pub record Shares (c : Counts) (table text : List ℕ) (shared : Shared) : Type 0 where
  pub none : Is c table text shared.none nil
  pub hardline : Is c table text shared.hardline hardline
  pub line : Is c table text shared.line line_doc
  pub softline : Is c table text shared.softline softline_doc

-- the answer r, which leaves table' and text': whenever it is a node, it adds to a valid table, and unfolds to the document
abbrev pub Gives : Counts → List ℕ → List ℕ → Made → List ℕ → List ℕ → Doc → Type 0
Gives c table text r table' text' d = Promise c table text (outcome r table' text') d
