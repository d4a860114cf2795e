use Rattle.std.proofs.Common.{◌<◌, length, ap, arith, true-eqb, false-eqb}
use Rattle.lines.proofs.Texts.{lines_none, next_line}
use Rattle.lines.proofs.text.LinesIterator.next.Goals as goal

pub returns-then-is_empty-clause-steps : goal.returns-then-is_empty-clause-steps
returns-then-is_empty-clause-steps c =
    let none = lines_none c.args.self.now.rest.now (true-eqb _ 0 c.if-is_empty.ensures) in (none, none)

pub returns-clause-steps : goal.returns-clause-steps
returns-clause-steps c =
    let some : 0 < length c.args.self.now.rest.now = omega (arith, false-eqb _ 0 c.if-is_empty.ensures) in
    next_line _ _ some c.split_line.ensures

pub returns-clause-goes : goal.returns-clause-goes
returns-clause-goes c =
    let fewer = ap length (returns-clause-steps c) in
    record { on = λ _. (tt, tt, omega (arith, fewer)); keeps = tt; rests = λ _. tt }
