-- `results::fields` meets its contract: each separator is the first behind the one before. Assumes nothing.
use Rattle.std.proofs.Common.{rules}
use native.Mathlib.Omega.{arith}
use mathlib.Core.Path.{refl}
use Rattle.results.proofs.Saying.{no-force, no-pluck, no-remark, fields_are, refused}
use Rattle.results.proofs.fields.Goals as goal

pub returns-in_err-first : goal.returns-in_err-first
returns-in_err-first c =
    let s = c.args.s.now in
    refused s (search rules) (no-force s _ refl c.in_err-first.ensures.none.1)

pub returns-in_err-second : goal.returns-in_err-second
returns-in_err-second c =
    let s = c.args.s.now in
    let a = c.in_ok-first.ensures.at in
    refused s (search rules) (no-pluck s _ a.0 _ refl a.1 c.in_err-second.ensures.none.1)

pub returns-in_err-third : goal.returns-in_err-third
returns-in_err-third c =
    let s = c.args.s.now in
    let a = c.in_ok-first.ensures.at in
    let b = c.in_ok-second.ensures.at in
    refused s (search rules) (no-remark s _ a.0 _ b.0 a.1 _ refl b.1 c.in_err-third.ensures.none.1)

pub returns : goal.returns
returns c =
    let a = c.in_ok-first.ensures.at in
    let b = c.in_ok-second.ensures.at in
    let d = c.in_ok-third.ensures.at in
    (fields_are c.args.s.now _ a.0 _ b.0 a.1 _ d.0 b.1 d.1, (omega (arith, a, b), omega (arith, b, d), d.1))
