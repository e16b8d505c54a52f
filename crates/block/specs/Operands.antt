-- What a run of parts (Run) asks of a block and its affixes: that all that it names is there.
use Rattle.std.specs.Prelude.{ℕ, ◌<◌, ◌≡◌, true, List, length}
use Rattle.build.specs.declared.Counts.{Counts}
use Rattle.build.specs.Constructors.{has_all, nest_right}
use Rattle.block.specs.declared.Shared.{Shared}
use Rattle.block.specs.Run.{Shares}
use Rattle.block.specs.declared.Block.{Block}

-- the body is there, and the amount is right
pub record Bodied (c : Counts) (b : Block) : Type 0 where
  pub body : b.body.0 < c.nodes
  pub amount : nest_right b.amount.0 b.way ≡ true

-- all that an alternative names is there
pub record AllPresent (c : Counts) (b : Block) (sh : Shared) (prefixes suffixes : List ℕ) : Type 0 where
  pub bodied : Bodied c b
  pub shares : Shares c sh
  pub before : has_all c prefixes ≡ true
  pub behind : has_all c suffixes ≡ true

-- a block with affixes, all that it names there and its amount right
pub record Askable (c : Counts) (b : Block) (prefixes suffixes : List ℕ) : Type 0 where
  pub bodied : Bodied c b
  pub before : has_all c prefixes ≡ true
  pub behind : has_all c suffixes ≡ true
  pub some : 0 < length prefixes
