-- Layouts that were built on a table of their own, laid over the lent one.
--     own-counted, own_ready      the table of their own counts as the lent one does
--     placed-stop, placed-short   no room there, or none in the lent table
--     placed_copies, placed_last  what is copied, and what it leaves
-- Assumes nothing.
use Prim.Native.Nat.{ℕ, ◌+◌, ◌-◌, ◌*◌, ◌/◌, ◌≤◌, ◌<◌}
use native.Mathlib.Omega.{arith}
use native.Mathlib.Nat.{zero-add}
use mathlib.Core.Path.{◌≡◌, refl, sym, ap, ap₂, ◌∙◌}
use mathlib.Core.Bool.{Bool, true, false, true≢false}
use mathlib.Core.List.{List, ◌++◌, append_assoc}
use lib.ListN.{length, take, drop, replicate, length-append, length-replicate}
use lib.Seq.{length-take-le, take_at, drop_at}
use Rattle.buffer.specs.Run.{put}
use Rattle.buffer.proofs.Put.{length-put, take_put}
use Rattle.table.specs.declared.NodeNo.{NodeNo}
use Rattle.build.specs.declared.Counts.{Counts}
use Rattle.build.specs.declared.Why.{Why}
use Rattle.build.specs.declared.Why.TheVariants.{Nodes}
use Rattle.build.specs.Outcome.{Made}
use Rattle.std.specs.Prelude.{Ok, Err}
use Rattle.build.specs.Draft.{Built, counted, over}
use Rattle.build.specs.Outcome.{fits, outcome, added, made}
use Rattle.build.proofs.Room.{Fits, fits_of, of-fits}
use Rattle.build.proofs.Stand.{same-words}
use Rattle.build.proofs.Only.{Adds, made-whole, made-short}
use Rattle.block.specs.declared.Block.{Block}
use Rattle.block.specs.Block.{layouts}
use Rattle.block.specs.Run.{Ready, Ran}
use Rattle.block.specs.Operands.{Askable}
use Rattle.block.proofs.Chain.{At, start-node, start-list, at, no-fit, had-room}
use Rattle.block.proofs.Starts.{layouts-adds, layouts_three}

-- new words laid over the lent table
over_copied : (table own words t : List ℕ) (used n : ℕ) → t ≡ take used table ++ words → used ≤ length table → length words ≡ n
    → put table used (take n (drop used (over t own))) ≡ over t table
unfolding put
over_copied table own words t used n e h l =
    let front = length-take-le used table h in
    let rest = drop (length t) own in
    let all : over t own ≡ take used table ++ (words ++ rest) = ap (λ (x : List ℕ). x ++ rest) e ∙ append_assoc (take used table) words rest in
    let words_are : take n (drop used (over t own)) ≡ words =
    ap (λ (x : List ℕ). take n (drop used x)) all ∙ ap (take n) (drop_at (take used table) (words ++ rest) used front) ∙ take_at words rest n l in
    let size : length t ≡ used + length words = ap length e ∙ length-append (take used table) words ∙ ap (λ (x : ℕ). x + length words) front in
    ap (λ (x : List ℕ). take used table ++ x ++ drop (used + length x) table) words_are
    ∙ ap₂ (λ (x : List ℕ) (y : ℕ). x ++ drop y table) (sym e) (sym size)

module _ {c : Counts} {table text : List ℕ} (r : Ready c table text) {b : Block} {ps ss : List ℕ} (k : Askable c b ps ss) (qs : List Bool)
    (few : c.nodes + 3 ≤ 1024) {own : List ℕ} (copied : own ≡ put (replicate 4096 0) 0 (take (c.nodes * 4) (drop 0 table))) where
  abbrev others : ℕ
  others = length ps - 1

  abbrev whole : Built
  whole = layouts (counted c table text) b ps ss qs others

  used-inside : c.nodes * 4 ≤ length table
  used-inside = let i = r.nodes in omega arith

  front : length (take (c.nodes * 4) table) ≡ c.nodes * 4
  front = length-take-le (c.nodes * 4) table used-inside

  own-length : length own ≡ 4096
  own-length =
      ap length copied
      ∙ length-put (replicate 4096 0) 0 (take (c.nodes * 4) table) (c.nodes * 4) front (rw (length-replicate {A = ℕ} 4096 0) (omega arith))
      ∙ length-replicate {A = ℕ} 4096 0

  own-front : take (c.nodes * 4) own ≡ take (c.nodes * 4) table
  own-front =
      let e = take_put (replicate 4096 0) 0 (take (c.nodes * 4) table) (c.nodes * 4) front (rw (length-replicate {A = ℕ} 4096 0) (omega arith)) in
      ap (take (c.nodes * 4)) copied ∙ ap (λ (n : ℕ). take n (put (replicate 4096 0) 0 (take (c.nodes * 4) table))) (sym (zero-add (c.nodes * 4))) ∙ e

  own-counted : counted c own text ≡ counted c table text
  unfolding counted
  own-counted = λ i. record { counts = c; table = own-front i; text = take c.bytes text }

  pub own_ready : Ready c own text
  own_ready = record { nodes = rw own-length (omega arith); bytes = r.bytes }

  adds : Adds (counted c table text) whole
  adds = layouts-adds (counted c table text) b ps ss qs others (start-node r k.bodied.body) (start-list r ps k.before) (start-list r ss k.behind)

  own-adds : Adds (counted c own text) whole
  own-adds = rw own-counted adds

  three : c.nodes + 3 ≤ whole.draft.counts.nodes
  unfolding counted
  three = layouts_three (counted c table text) b ps ss qs others (start-node r k.bodied.body) (start-list r ps k.before) (start-list r ss k.behind)

  quiet : whole.draft.counts.bytes ≡ c.bytes
  unfolding counted
  quiet = adds.quiet

  abbrev Goal : Made → List ℕ → Type 0
  Goal m table' = outcome m table' text ≡ made c table text true true true (λ s. layouts s b ps ss qs others)

  -- no room: refused
  refused : fits c.nodes whole.draft.counts.nodes 1024 (length table / 4) ≡ false → Goal (Err Nodes) table
  refused e = made-short c table text true true (λ s. layouts s b ps ss qs others) r.nodes r.bytes refl refl quiet e

  abbrev W : ℕ
  W = whole.draft.counts.nodes

  -- what the lent table has room for, the table of their own has room for
  lent_fits : fits c.nodes W 1024 (length table / 4) ≡ true → Fits c.nodes W 1024 (length table / 4)
  lent_fits e = let h = three in fits_of c.nodes W 1024 (length table / 4) (omega arith) e

  none_lent : (q : Bool) → fits c.nodes W 1024 (length table / 4) ≡ q → (W ≤ 1024 → W ≤ length table / 4 → ⊥) → fits c.nodes W 1024 (length table / 4) ≡ false
  none_lent true e f = let h = three in absurd (f ((lent_fits e).limited (omega arith)) ((lent_fits e).inside (omega arith)))
  none_lent false e f = e

  module _ {m : Made} {own₁ : List ℕ} (ran₀ : Ran c own text (layouts (counted c own text) b ps ss qs others) m own₁) where
    ran : Ran c own text whole m own₁
    ran = rw own-counted at ran₀

    pub placed-stop : {why : Why} → m ≡ Err why → Goal m table
    placed-stop x =
        let none = no-fit own_ready own-adds ran x in
        let small : W ≤ 1024 → fits c.nodes W 1024 (length own / 4) ≡ true =
        λ l. let g : c.nodes ≤ W = let h = three in omega arith in of-fits (record { grows = g; limited = λ y. l; inside = λ y. rw own-length (omega arith) }) in
        rw (ran.short none) (refused (none_lent (fits c.nodes W 1024 (length table / 4)) refl (λ l m. true≢false (sym (small l) ∙ none))))

    module _ {d : Counts} {n : NodeNo} (x : m ≡ Ok (d, n)) where
      t : At c own text whole.draft d own₁ × (n.0 ≡ whole.node)
      t = at own_ready own-adds ran x

      is_whole : d.nodes ≡ W
      is_whole = ap (λ (y : Counts). y.nodes) t.0.stands.counts

      few-whole : W ≤ 1024
      few-whole = let h = three in (fits_of c.nodes W 1024 (length own / 4) (omega arith) (had-room own_ready own-adds ran x)).limited (omega arith)

      pub placed-short : length table / 4 < d.nodes → Goal (Err Nodes) table
      placed-short h = let e = is_whole in refused (none_lent (fits c.nodes W 1024 (length table / 4)) refl (λ l m. omega arith))

      pub placed_copies : d.nodes ≤ length table / 4 → (c.nodes * 4 ≤ d.nodes * 4) × (d.nodes * 4 ≤ length own₁) × (d.nodes * 4 ≤ length table)
      placed_copies h =
          let e = is_whole in
          let three-more = three in
          let few-more = few-whole in
          let size = same-words t.0.stands ∙ own-length in
          (omega arith, omega arith, omega arith)

      pub placed_last : d.nodes ≤ length table / 4 → {table' : List ℕ}
          → table' ≡ put table (c.nodes * 4) (take (d.nodes * 4 - c.nodes * 4) (drop (c.nodes * 4) own₁)) → Goal (Ok (d, n)) table'
      unfolding added counted
      placed_last h e =
          let is = is_whole in
          let three-more = three in
          let g : c.nodes ≤ W = omega arith in
          let room : Fits c.nodes W 1024 (length table / 4) = record { grows = g; limited = λ y. few-whole; inside = λ y. omega arith } in
          let size : length adds.grown.words ≡ d.nodes * 4 - c.nodes * 4 = let n = adds.grown.nodes in omega arith in
          let words =
          over_copied table own adds.grown.words whole.draft.table (c.nodes * 4) (d.nodes * 4 - c.nodes * 4) adds.grown.table used-inside size in
          let laid = e ∙ ap (λ (l : List ℕ). put table (c.nodes * 4) (take (d.nodes * 4 - c.nodes * 4) (drop (c.nodes * 4) l))) t.0.stands.words ∙ words in
          let kept = t.0.stands.bytes in
          (λ i. outcome (Ok ((t.0.stands.counts i), (record { 0 = t.1 i }))) (laid i) (kept i))
          ∙ sym (made-whole c table text true true (λ s. layouts s b ps ss qs others) r.nodes r.bytes refl refl quiet (of-fits room))
