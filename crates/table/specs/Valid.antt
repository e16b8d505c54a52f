-- What document 01 calls a valid table: what holds of a table, its text and each of its nodes. Sound.antt has the part that readers need.
-- proofs/Accept.antt: `check` of Fault.antt answers 0 for these and for no others.
use Rattle.std.specs.Prelude.{ℕ, ◌+◌, ◌/◌, ◌%◌, ◌≤◌, ◌<◌, ◌≡◌, true, List, length, take, drop}
use Rattle.table.specs.Kinds.{kind_at}
use Rattle.table.specs.Node.{word}
use Rattle.buffer.specs.Utf8.{well_formed, ascii, no_feed}

-- the words b and c of a Nest
pub record NestRight (b c : ℕ) : Type 0 where
  pub amount : b ≤ 1000
  pub way : c ≤ 1

-- the words of a Text over the text bytes: offset a, length b, columns c
pub record TextRight (bytes : List ℕ) (a b c : ℕ) : Type 0 where
  pub inside : a + b ≤ length bytes
  pub unfed : no_feed (take b (drop a bytes)) ≡ true
  pub utf8 : well_formed (take b (drop a bytes)) ≡ true
  pub below128 : ascii (take b (drop a bytes)) ≡ true → c ≡ b
  pub columns : c ≤ b

-- node n with the words k a b c, over the text bytes
pub record NodeRight (bytes : List ℕ) (n k a b c : ℕ) : Type 0 where
  pub known : k < 11
  pub unused-a : (kind_at k).words < 1 → a ≡ 0
  pub unused-b : (kind_at k).words < 2 → b ≡ 0
  pub unused-c : (kind_at k).words < 3 → c ≡ 0
  pub first-child : 0 < (kind_at k).children → a < n
  pub second-child : 1 < (kind_at k).children → b < n
  pub nest : k ≡ 4 → NestRight b c
  pub text : k ≡ 6 → TextRight bytes a b c

-- a valid table with its text: its sizes, and every node, unreachable ones too
pub record Valid (table text : List ℕ) : Type 0 where
  pub some : 0 < length table
  pub fours : length table % 4 ≡ 0
  pub words : length table ≤ 4096
  pub bytes : length text ≤ 65536
  pub nodes : (n : ℕ) → n < length table / 4 → NodeRight text n (word table n 0) (word table n 1) (word table n 2) (word table n 3)
