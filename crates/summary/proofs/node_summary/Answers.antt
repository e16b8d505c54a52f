-- `summary::node_summary` meets its contract: an arm for each kind, by the law that Arms.antt has for it.
-- Assumes nothing.
use native.Mathlib.Omega.{arith}
use Rattle.summary.proofs.Arms.{append-below, child-small, says-nil, says-append, says_one, says-flat_alt-flat, says-flat_alt-broken, says-text, says-union, says-stop}
use Rattle.summary.proofs.node_summary.Goals as goal

pub joined-requires : goal.joined-requires
joined-requires c =
    let less = append-below c.requires.sound c.words_at-w.ensures c.in-1.is in
    (child-small c.requires _ c.args.flat _ less.0 c.summary_at.ensures, child-small c.requires _ c.args.flat _ less.1 c.summary_at-in-1.ensures)

pub returns-in-0 : goal.returns-in-0
returns-in-0 c =
    says-nil c.requires c.words_at-w.ensures c.args.flat c.in-0.is

pub returns-in-1 : goal.returns-in-1
returns-in-1 c =
    rw (c.joined.ensures, c.summary_at.ensures, c.summary_at-in-1.ensures) (says-append c.requires c.words_at-w.ensures c.args.flat c.in-1.is)

pub returns-in-2 : goal.returns-in-2
returns-in-2 c =
    rw c.summary_at-in-2.ensures (says_one c.requires c.words_at-w.ensures c.args.flat c.in-2.is)

pub returns-in-3 : goal.returns-in-3
returns-in-3 c =
    rw (c.summary_at-in-3.ensures, c.if-flat.true) (says-flat_alt-flat c.requires c.words_at-w.ensures c.in-3.is)

pub returns-in-3-2 : goal.returns-in-3-2
returns-in-3-2 c =
    rw (c.summary_at-in-3-2.ensures, c.if-flat.false) (says-flat_alt-broken c.requires c.words_at-w.ensures c.in-3.is)

pub returns-in-6 : goal.returns-in-6
returns-in-6 c =
    says-text c.requires c.words_at-w.ensures c.args.flat c.in-6.is

pub returns-in-8 : goal.returns-in-8
returns-in-8 c =
    rw c.summary_at-in-8.ensures (says-union c.requires c.words_at-w.ensures c.args.flat c.in-8.is)

pub returns-in_default : goal.returns-in_default
returns-in_default c =
    says-stop c.requires c.words_at-w.ensures c.args.flat (omega arith) (omega arith) (omega arith) (omega arith) (omega arith) (omega arith)
