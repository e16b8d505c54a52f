-- The iterator `buffer::lines::Lines` gives the lines: the first of what is left, or none. Assumes nothing.
use Rattle.std.proofs.Common.{◌≡◌, ◌<◌, rules, arith, ap, length}
use Rattle.buffer.proofs.ByLine.{first_line, no_lines}
use Rattle.buffer.proofs.lines.LinesIterator.next.Goals as goal

pub returns-then-is_empty-clause-steps : goal.returns-then-is_empty-clause-steps
returns-then-is_empty-clause-steps c =
    let none : length c.args.self.now.rest.now ≡ 0 = search rules in
    (no_lines _ none, no_lines _ none)

pub returns-clause-steps : goal.returns-clause-steps
returns-clause-steps c =
    let some : 0 < length c.args.self.now.rest.now = search rules in
    first_line c.args.self.now.rest.now c.line_end-end.result _ some c.line_end-end.ensures.is c.behind-self.ensures

pub returns-clause-goes : goal.returns-clause-goes
returns-clause-goes c =
    let some : 0 < length c.args.self.now.rest.now = search rules in
    let e = first_line c.args.self.now.rest.now c.line_end-end.result _ some c.line_end-end.ensures.is c.behind-self.ensures in
    record { on = λ _. (tt, tt, omega (arith, ap length e)); keeps = tt; rests = λ _. tt }
