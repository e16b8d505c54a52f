-- `fitting::look` meets its contract: an arm for each kind, by the law that Arms.antt has for it.
-- Assumes nothing.
use Rattle.waiting.proofs.Laws.{flat_mode}
use Rattle.table.proofs.Nodes.{node-is, node-fail, text-columns}
use Rattle.fitting.proofs.Arms.{look-nil, look-append, look_one, look-through, look-flat_alt, look-hardline, look-hardline-flat, look-text, look-text-past, look-fail}
use native.Mathlib.Omega.{arith}
use Rattle.fitting.proofs.look.Goals as goal

pub overflow_add-end-in-6 : goal.overflow_add-end-in-6
overflow_add-end-in-6 c =
    omega (arith, text-columns c.args.table.now 65536 c.args.node.0 c.in-6.is c.requires.sound)

pub returns-in-0 : goal.returns-in-0
returns-in-0 c = look-nil c.in-0.is

pub returns-in-1 : goal.returns-in-1
returns-in-1 c = look-append c.in-1.is c.push_fit.ensures

pub returns-in-2 : goal.returns-in-2
returns-in-2 c = look_one c.in-2.is

pub returns-then-mode-eq0 : goal.returns-then-mode-eq0
returns-then-mode-eq0 c =
    look-flat_alt {m = c.args.mode.0} _ c.in-3.is (rw c.if-mode-eq0.true)

pub returns-else-mode-eq0 : goal.returns-else-mode-eq0
returns-else-mode-eq0 c =
    look-flat_alt {m = c.args.mode.0} _ c.in-3.is (rw (flat_mode _ c.if-mode-eq0.false))

pub returns-then-mode-eq0-2 : goal.returns-then-mode-eq0-2
returns-then-mode-eq0-2 c = look-hardline c.in-5.is c.if-mode-eq0-2.true

pub returns-else-mode-eq0-2 : goal.returns-else-mode-eq0-2
returns-else-mode-eq0-2 c = look-hardline-flat c.in-5.is c.if-mode-eq0-2.false

pub returns-then-end-width : goal.returns-then-end-width
returns-then-end-width c = look-text c.in-6.is c.if-end-width.true

pub returns-else-end-width : goal.returns-else-end-width
returns-else-end-width c = look-text-past c.in-6.is c.if-end-width.false

pub returns-in-8 : goal.returns-in-8
returns-in-8 c = look-through _ (λ is left. rw (node-is _ _ 8 c.in-8.is))

pub returns-in_default : goal.returns-in_default
returns-in_default c =
    look-fail
    (node-fail _ _ (omega arith) (omega arith) (grind arith) (omega arith) (grind arith) (omega arith) (omega arith) (grind arith) (omega arith) (grind arith))
