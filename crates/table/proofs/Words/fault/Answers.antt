-- `Words::fault` meets its contract: a Text by itself, any other by the tests in document 01's order. Assumes nothing.
use mathlib.Core.Path.{sym, ap, ◌∙◌}
use Rattle.std.proofs.Common.{rules}
use Rattle.table.specs.Kinds.{kind_at}
use Rattle.table.proofs.Answers.{fault_unknown, fault_unused, fault-child, fault-nest, fault-none, fault-text}
use Rattle.table.proofs.KindNumbers.{below-11, not-text}
use Rattle.table.proofs.Words.fault.Goals as goal

pub returns-in_err-kind : goal.returns-in_err-kind
returns-in_err-kind c = search (rules, fault_unknown)

pub returns-in-Text : goal.returns-in-Text
returns-in-Text c = search (rules, fault-text)

-- what a search finds here too is written out: where the code is wrong, the search takes minutes to say so
pub returns-then-not-unused_zero : goal.returns-then-not-unused_zero
returns-then-not-unused_zero c =
    let w = c.args.self in
    let known = below-11 c.in_ok-kind.kind w.kind c.in_ok-kind.ensures in
    let entry = c.info-info.ensures ∙ ap kind_at c.in_ok-kind.ensures in
    fault_unused c.args.seen.now.text.now c.args.n.0 w.kind w.a w.b w.c c.info-info.result known entry (sym c.unused_zero.ensures ∙ c.if-not-unused_zero.true)

pub returns-then-not-children_below : goal.returns-then-not-children_below
returns-then-not-children_below c =
    let w = c.args.self in
    let known = below-11 c.in_ok-kind.kind w.kind c.in_ok-kind.ensures in
    let entry = c.info-info.ensures ∙ ap kind_at c.in_ok-kind.ensures in
    fault-child c.args.seen.now.text.now c.args.n.0 w.kind w.a w.b w.c c.info-info.result known entry
    (sym c.unused_zero.ensures ∙ c.if-not-unused_zero.false) (sym c.children_below.ensures ∙ c.if-not-children_below.true)

pub returns-then-not-nest_in_range : goal.returns-then-not-nest_in_range
returns-then-not-nest_in_range c =
    let w = c.args.self in
    let known = below-11 c.in_ok-kind.kind w.kind c.in_ok-kind.ensures in
    let entry = c.info-info.ensures ∙ ap kind_at c.in_ok-kind.ensures in
    fault-nest c.args.seen.now.text.now c.args.n.0 w.kind w.a w.b w.c c.info-info.result known entry
    (sym c.unused_zero.ensures ∙ c.if-not-unused_zero.false) (sym c.children_below.ensures ∙ c.if-not-children_below.false)
    (sym c.nest_in_range.ensures ∙ c.if-not-nest_in_range.true)

pub returns : goal.returns
returns c =
    let w = c.args.self in
    let known = below-11 c.in_ok-kind.kind w.kind c.in_ok-kind.ensures in
    let entry = c.info-info.ensures ∙ ap kind_at c.in_ok-kind.ensures in
    fault-none c.args.seen.now.text.now c.args.n.0 w.kind w.a w.b w.c c.info-info.result known entry
    (sym c.unused_zero.ensures ∙ c.if-not-unused_zero.false) (sym c.children_below.ensures ∙ c.if-not-children_below.false)
    (sym c.nest_in_range.ensures ∙ c.if-not-nest_in_range.false) (not-text c.in_ok-kind.kind c.in_default.not-Text w.kind c.in_ok-kind.ensures)
