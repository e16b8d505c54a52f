-- `utf8::plainly_below_128` meets its contract: a part of the whole, or the front of a block. Assumes nothing.
use native.Mathlib.Omega.{arith}
use mathlib.Core.Path.{◌≡◌, sym, ap, ◌∙◌}
use mathlib.Core.Bool.{false≢true}
use Prim.Native.Nat.{ℕ, ◌+◌, ◌-◌, ◌≤◌}
use lib.ListN.{length, take, drop}
use Rattle.buffer.specs.Utf8.{ascii}
use Rattle.buffer.proofs.Octets.{ascii_part, ascii-short}
use Rattle.buffer.proofs.utf8.plainly_below_128.Goals as goal

pub slice_bounds-below_128-end : goal.slice_bounds-below_128-end
slice_bounds-below_128-end c =
    let a = c.args in
    let room : 32 ≤ length a.text.now - a.at = omega arith in
    omega arith

pub returns-then-plain : goal.returns-then-plain
returns-then-plain c =
    let a = c.args in
    λ e. ascii_part a.text.now a.at a.n (sym c.requires.0 ∙ c.if-plain.true)

pub returns-then-text-at-ge-BLOCK : goal.returns-then-text-at-ge-BLOCK
returns-then-text-at-ge-BLOCK c =
    let a = c.args in
    let l = drop a.at a.text.now in
    let n : a.at + 32 - a.at ≡ 32 = omega arith in
    λ e. ascii-short l a.n 32 c.if-n-le-BLOCK.true (ap (λ (k : ℕ). ascii (take k l)) (sym n) ∙ sym c.below_128.ensures ∙ e)

pub returns : goal.returns
returns c = λ e. absurd (false≢true e)
