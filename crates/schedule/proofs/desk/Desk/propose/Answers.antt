use Rattle.std.proofs.Common.{rules, refl}
use Rattle.run.specs.Numbers.{gathered}
use Rattle.schedule.specs.Calls.{Proposed}
use Rattle.schedule.specs.States.{held}
use Rattle.schedule.proofs.Outcomes.{accepted_lent}
use Rattle.schedule.proofs.desk.Desk.propose.Goals as goal

pub returns : goal.returns
returns c =
    let desk = c.args.self.now in
    let told = c.in_ok-propose.ensures in
    accepted_lent _ _ _ (λ _. Proposed (gathered c.args.gathering.now) (held desk) c.args.i c.args.number.value) c.in_ok-propose.field-0 desk c.propose.new.stations (search rules) (cc)
    (λ lent. (c.args.number, (refl, (cc))))
