-- The laws of the whole sheet: its lines one after the other, over the shared nodes.
--     reads, says-.., part-is  what a line adds, by what it says
--     Lining, none_lined, one_lined, all_lined     the lines so far, with those that are left
--     begun, joined, named     what a caller has of an answer
-- Assumes nothing.
use Prim.Native.Nat.{ℕ, ◌+◌, ◌-◌, ◌≤◌, ◌<◌}
use native.Mathlib.Omega.{arith}
use mathlib.Core.Path.{◌≡◌, refl, sym, ap, ◌∙◌, subst}
use mathlib.Core.List.{List, [], ◌∷◌, map}
use lib.ListN.{length, take, drop}
use Rattle.table.specs.Document.{Doc, nil, hardline}
use Rattle.table.specs.declared.NodeNo.{NodeNo}
use Rattle.build.specs.declared.Counts.{Counts}
use Rattle.build.specs.Outcome.{Made}
use Rattle.build.specs.Documents.{append_doc, joined_doc, concat_doc}
use Rattle.build.specs.Promise.{ValidSoFar}
use Rattle.buffer.specs.Parts.{lines, body_end}
use Rattle.std.specs.Prelude.{Result, Ok, Err}
use Rattle.results.specs.Pallets.{parsed}
use Rattle.results.specs.declared.Pallet.{Pallet}
use Rattle.results.specs.declared.Fault.{Fault}
use Rattle.results.specs.declared.Line.{Line as Said}
use Rattle.results.specs.declared.Line.TheVariants.{Empty, Heading, Row}
use Rattle.words.specs.Widths.{width}
use Rattle.words.specs.Documents.{filled_doc}
use Rattle.row.specs.Documents.{row_doc}
use Rattle.words.specs.declared.Shared.{Shared}
use Rattle.chest.specs.declared.NoRoom.{NoRoom}
use Rattle.chest.specs.declared.NoRoom.TheVariants.{Line, Footer}
use Rattle.chest.specs.Documents.{says_doc, part_doc, lines_doc}
use Rattle.words.specs.Build.{Is, Shares, Gives}
use Rattle.words.specs.Start.{Start, Started}
use Rattle.chest.specs.Build.{AtLine, Named, Lined, Joined}
use Rattle.words.proofs.Chain.{new, shares-kept}

-- what was read of a line
pub reads : (line : List ℕ) {r : Result Said Fault} {l m : Said} → r ≡ Ok l → l ≡ m → r ≡ parsed line → Ok m ≡ parsed line
reads line e f is = sym (e ∙ ap (λ (l : Said). Ok l) f) ∙ is

-- what is known of a line is what it says
module _ (line : List ℕ) where
  pub says_row : {p : Pallet} → Ok (Row p) ≡ parsed line → row_doc line p ≡ says_doc line (parsed line)
  unfolding says_doc
  says_row e = ap (says_doc line) e

  pub says-heading : {words : List ℕ} → words ≡ drop 1 line → Ok Heading ≡ parsed line → append_doc (filled_doc width words) hardline ≡ says_doc line (parsed line)
  unfolding says_doc
  says-heading is e = ap (λ (l : List ℕ). append_doc (filled_doc width l) hardline) is ∙ ap (says_doc line) e

  pub says-empty : Ok Empty ≡ parsed line → hardline ≡ says_doc line (parsed line)
  unfolding says_doc
  says-empty e = ap (says_doc line) e

  pub says-fault : {fault : Fault} → Err fault ≡ parsed line → nil ≡ says_doc line (parsed line)
  unfolding says_doc
  says-fault e = ap (says_doc line) e

-- what a line says without its carriage return is what it adds
pub part-is : (line : List ℕ) {body : List ℕ} → body ≡ take (body_end line) line → says_doc body (parsed body) ≡ part_doc line
unfolding part_doc
part-is line e = rw e

joined-nil : (ds : List Doc) → joined_doc nil ds ≡ concat_doc ds
unfolding joined_doc concat_doc append_doc
joined-nil [] = refl
joined-nil (d ∷ ds) = refl

-- a valid table with its shared nodes, and the lines so far, which with those that are left are all
pub record Lining (shared : Shared) (input : List ℕ) (left : List (List ℕ)) (c : Counts) (t x : List ℕ) (n : NodeNo) : Type 0 where
  pub valid : ValidSoFar c t x
  pub shares : Shares c t x shared
  pub said : Doc
  pub is : Is c t x n said
  pub rest : joined_doc said (map part_doc left) ≡ lines_doc input

pub none_lined : (input : List ℕ) {c : Counts} {t x : List ℕ} {shared : Shared} {left : List (List ℕ)} → left ≡ lines input → ValidSoFar c t x → Shares c t x shared → Lining shared input left c t x shared.none
unfolding lines_doc
none_lined input e v s = record { valid = v; shares = s; said = nil; is = s.none; rest = rw e (joined-nil (map part_doc (lines input))) }

module _ {shared : Shared} {input : List ℕ} {left : List (List ℕ)} {c : Counts} {t x : List ℕ} {n : NodeNo} (l : Lining shared input left c t x n) where
  pub one_lined : {line : List ℕ} {left' : List (List ℕ)} → left ≡ line ∷ left'
      → {r : Made} {t' x' : List ℕ} → ((d : Doc) → Shares c t x shared → Is c t x n d → Gives c t x r t' x' (append_doc d (part_doc line)))
      → {c' : Counts} {n' : NodeNo} → r ≡ Ok (c', n') → Lining shared input left' c' t' x' n'
  unfolding joined_doc
  one_lined {line} e adds {c'} {n'} is =
      let b = adds l.said l.shares l.is c' n' is l.valid in
      record {
        valid = b.valid;
        shares = shares-kept b l.shares;
        said = append_doc l.said (part_doc line);
        is = new b;
        rest = sym (ap (λ (ls : List (List ℕ)). joined_doc l.said (map part_doc ls)) e) ∙ l.rest;
      }

  pub all_lined : left ≡ [] → {count : ℕ} → count + length left ≡ length (lines input) → Lined input shared c n count t x
  unfolding joined_doc
  all_lined e k =
      let none = ap length e in
      let d = sym (ap (λ (ls : List (List ℕ)). joined_doc l.said (map part_doc ls)) e) ∙ l.rest in
      record { valid = l.valid; shares = l.shares; is = subst (Is c t x n) d l.is; count = omega arith }

-- ---- what a caller has of an answer

pub begun : (table text : List ℕ) {r : Start} {c : Counts} {shared : Shared} → r ≡ Ok (c, shared) → Started r table text → ValidSoFar c table text × Shares c table text shared
begun table text is s = subst (λ (r : Start). Started r table text) is s

pub joined : (input : List ℕ) (shared : Shared) (table text : List ℕ) {r r' : Result (Counts × NodeNo × ℕ) NoRoom} → r ≡ r' → Joined input shared r table text → Joined input shared r' table text
joined input shared table text is j = subst (λ (r : Result (Counts × NodeNo × ℕ) NoRoom). Joined input shared r table text) is j

-- a line that has no room is one of what may have none
pub named : (input : List ℕ) (e : NoRoom) → AtLine input e → Named input e
named input (Line line why) h = h
named input (Footer line why) h = absurd h
