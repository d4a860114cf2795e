use Rattle.std.proofs.Common.{vec_items}
use Rattle.lines.specs.Left.{lines_left}
use Rattle.schedule.specs.States.{state}
use Rattle.schedule.proofs.Sequences.{Sofar}
use Rattle.schedule.proofs.session.interpret.Given as goal

abbrev pub invariant-loop-line : goal.invariant-loop-line
invariant-loop-line l = Sofar l.text (vec_items l.answers) (state l.session) (lines_left l.line-iterator)
