-- Room, and what is known where the whole was granted.
--     Fits      what stands and what will stand, below the limit and in what is lent; stretch, fits-inside
--     Room      nodes and bytes, from counts to counts
--     Allowed   what `asked` granted, both ways: allowed, granted
-- Assumes nothing.
use Prim.Native.Nat.{ℕ, ◌/◌, ◌≤◌, ◌<◌}
use native.Mathlib.Omega.{arith}
use native.Mathlib.Decide.{dec_lt}
use mathlib.Core.Path.{◌≡◌, refl, sym}
use mathlib.Core.Bool.{Bool, true, false, ◌&&◌, ◌||◌, true≢false}
use lib.Dec.{eqb, leb}
use borrow.Author.Tests.{ltb-false, leb-true, eqb-true, not-false, le-ltb, le-leb, eq-eqb, ne_eqb}
use Rattle.choice.specs.Pick.{pick}
use Rattle.build.specs.declared.Counts.{Counts}
use Rattle.build.specs.declared.Why.{Why}
use Rattle.std.specs.Prelude.{Ok, Err}
use Rattle.build.specs.Outcome.{Asked, fits, asked}

-- from what stands to what will stand, below the limit and in what is lent
pub record Fits (before after limit lent : ℕ) : Type 0 where
  pub grows : before ≤ after
  pub limited : before < after → after ≤ limit
  pub inside : before < after → after ≤ lent

pub fits_of : (before after limit lent : ℕ) → before ≤ after → fits before after limit lent ≡ true → Fits before after limit lent
fits_of before after limit lent g e = go (eqb before after) refl e
  where
    both : (q : Bool) → leb after limit ≡ q → q && leb after lent ≡ true → (after ≤ limit) × (after ≤ lent)
    both true p e = (leb-true after limit p, leb-true after lent e)
    both false p e = let z : true ≡ false = sym e in absurd (true≢false z)

    go : (q : Bool) → eqb before after ≡ q → q || (leb after limit && leb after lent) ≡ true → Fits before after limit lent
    go true p e = let z : before ≡ after = eqb-true before after p in record { grows = g; limited = λ l. absurd (omega arith); inside = λ l. absurd (omega arith) }
    go false p e = let b = both (leb after limit) refl e in record { grows = g; limited = λ l. b.0; inside = λ l. b.1 }

pub of-fits : {before after limit lent : ℕ} → Fits before after limit lent → fits before after limit lent ≡ true
of-fits {before} {after} {limit} {lent} f = go (dec_lt before after)
  where
    go : Dec (before < after) → fits before after limit lent ≡ true
    go (yes l) = rw (ne_eqb before after (λ e. omega arith), le-leb after limit (f.limited l), le-leb after lent (f.inside l))
    go (no l) = let g = f.grows in rw (eq-eqb before after (omega arith))

-- a stretch of what fits
pub stretch : {before after limit lent : ℕ} (from to : ℕ) → Fits before after limit lent → before ≤ from → from ≤ to → to ≤ after → Fits from to limit lent
stretch {before} {after} from to f a b c =
    record { grows = b; limited = λ l. let h = f.limited (omega arith) in omega arith; inside = λ l. let h = f.inside (omega arith) in omega arith }

-- what fits is inside
pub fits-inside : {before after limit lent : ℕ} → Fits before after limit lent → before ≤ lent → after ≤ lent
fits-inside {before} {after} {limit} {lent} f h = go (dec_lt before after)
  where
    go : Dec (before < after) → after ≤ lent
    go (yes l) = f.inside l
    go (no l) = omega arith

-- from counts to counts, in a table and a text of these lengths
pub record Room (words bytes : ℕ) (c d : Counts) : Type 0 where
  pub nodes : Fits c.nodes d.nodes 1024 (words / 4)
  pub used : Fits c.bytes d.bytes 65536 bytes

-- what is known where the whole was granted
pub record Allowed (c d : Counts) (words bytes : ℕ) (present amount text : Bool) : Type 0 where
  pub counted-nodes : c.nodes ≤ words / 4
  pub counted-bytes : c.bytes ≤ bytes
  pub operands : present ≡ true
  pub amounts : amount ≡ true
  pub texts : text ≡ true
  pub room : Room words bytes c d

goes_on : (q : Bool) (w : Why) (x : Asked) → pick q (Err w) x ≡ Ok tt → (q ≡ false) × (x ≡ Ok tt)
goes_on true w x e = let z : ◌≡◌ {A = ℕ} 0 1 = cc in absurd (omega arith)
goes_on false w x e = (refl, e)

pub neither : (p q : Bool) → p || q ≡ false → (p ≡ false) × (q ≡ false)
neither true q e = absurd (true≢false e)
neither false q e = (refl, e)

-- every test was passed
pub record Passed (c : Counts) (words bytes : ℕ) (present amount text : Bool) (nodes used : ℕ) : Type 0 where
  pub counted-nodes : c.nodes ≤ words / 4
  pub counted-bytes : c.bytes ≤ bytes
  pub operands : present ≡ true
  pub amounts : amount ≡ true
  pub texts : text ≡ true
  pub bytes_fit : fits c.bytes used 65536 bytes ≡ true
  pub nodes-fit : fits c.nodes nodes 1024 (words / 4) ≡ true

pub passed : (c : Counts) (words bytes : ℕ) (present amount text : Bool) (nodes used : ℕ) → asked c words bytes present amount text nodes used ≡ Ok tt
    → Passed c words bytes present amount text nodes used
unfolding asked
passed c words bytes present amount text nodes used e =
    let a = goes_on _ _ _ e in
    let b = goes_on _ _ _ a.1 in
    let p = goes_on _ _ _ b.1 in
    let q = goes_on _ _ _ p.1 in
    let r = goes_on _ _ _ q.1 in
    let s = goes_on _ _ _ r.1 in
    let n = neither _ _ a.0 in
    record {
      counted-nodes = ltb-false (words / 4) c.nodes n.0;
      counted-bytes = ltb-false bytes c.bytes n.1;
      operands = not-false _ b.0;
      amounts = not-false _ p.0;
      texts = not-false _ q.0;
      bytes_fit = not-false _ r.0;
      nodes-fit = not-false _ s.0;
    }

pub room_of : {c : Counts} {words bytes : ℕ} {present amount text : Bool} (d : Counts) → c.nodes ≤ d.nodes → c.bytes ≤ d.bytes
    → Passed c words bytes present amount text d.nodes d.bytes → Room words bytes c d
room_of d gn gb p = record { nodes = fits_of _ _ _ _ gn p.nodes-fit; used = fits_of _ _ _ _ gb p.bytes_fit }

pub allowed : (c d : Counts) (words bytes : ℕ) (present amount text : Bool) → c.nodes ≤ d.nodes → c.bytes ≤ d.bytes
    → asked c words bytes present amount text d.nodes d.bytes ≡ Ok tt → Allowed c d words bytes present amount text
allowed c d words bytes present amount text gn gb e =
    let p = passed c words bytes present amount text d.nodes d.bytes e in
    record { counted-nodes = p.counted-nodes; counted-bytes = p.counted-bytes; operands = p.operands; amounts = p.amounts; texts = p.texts; room = room_of d gn gb p }

pub granted : {c d : Counts} {words bytes : ℕ} {present amount text : Bool} → Allowed c d words bytes present amount text
    → asked c words bytes present amount text d.nodes d.bytes ≡ Ok tt
unfolding asked
granted {c} {d} {words} {bytes} {present} {amount} {text} h =
    rw (le-ltb (words / 4) c.nodes h.counted-nodes, le-ltb bytes c.bytes h.counted-bytes, h.operands, h.amounts, h.texts)
    (rw (of-fits h.room.used) (rw (of-fits h.room.nodes) refl))
