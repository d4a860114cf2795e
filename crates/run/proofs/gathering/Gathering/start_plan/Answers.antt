use Rattle.std.proofs.Common.{refl, rules}
use Rattle.run.specs.Numbers.{gathered}
use Rattle.run.proofs.Opening.{first_sound, start_ready}
use Rattle.run.proofs.gathering.Gathering.start_plan.Goals as goal

pub begin_first-step-requires : goal.begin_first-step-requires
begin_first-step-requires g c =
    let run = c.args.self.now in
    first_sound g.V.Value (gathered run) run.sized c.args.tables c.in_ok-check.ensures.fit (search rules) (search rules) c.index-tables-0.result

pub returns-clause-ready : goal.returns-clause-ready
returns-clause-ready g c =
    let run = c.args.self.now in
    start_ready g.V.Value (gathered run) run.sized c.args.tables c.in_ok-check.ensures.fit (search rules) (search rules) c.index-tables-0.result c.begin_first-step.result
    refl refl c.begin_first-step.ensures.answer (search rules)
