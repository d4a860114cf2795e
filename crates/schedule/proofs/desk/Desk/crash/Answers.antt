use Rattle.std.proofs.Common.{rules}
use Rattle.run.specs.Numbers.{numbers}
use Rattle.schedule.specs.Calls.{Crashed}
use Rattle.schedule.specs.States.{held}
use Rattle.schedule.proofs.Outcomes.{accepted_lent}
use Rattle.schedule.proofs.desk.Desk.crash.Goals as goal

pub returns : goal.returns
returns c =
    let desk = c.args.self.now in
    let told = c.in_ok-crash.ensures in
    accepted_lent _ _ _ (λ _. Crashed (numbers c.args.running.now) (held desk) c.args.i) c.in_ok-crash.field-0 desk c.crash.new.stations (search rules) (cc)
    (λ lent. (c.crash.new.detector, (search rules, (cc))))
