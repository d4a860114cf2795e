use Rattle.std.proofs.Common.{length, rules, sym, refl, ap, ◌∙◌}
use Rattle.value.specs.contracts.kinds.NumberValue.TheImpl as number
use Rattle.run.specs.Numbers.{numbers}
use Rattle.run.specs.Crash.{pass_answer}
use Rattle.schedule.specs.Calls.{Lapsed}
use Rattle.schedule.specs.States.{held}
use Rattle.schedule.proofs.Outcomes.{accepted}
use Rattle.schedule.proofs.desk.Desk.pass.Goals as goal

pub returns : goal.returns
returns c =
    let run = numbers c.args.running.now in
    let h = held c.args.self.now in
    let answer = c.in_ok-pass.ensures.answer
    ∙ ap (λ l. pass_answer number.ghosts run l (length c.deref-2.result.now)) c.deref.ensures.value
    ∙ ap (λ l. pass_answer number.ghosts run h.stations (length l)) c.deref-2.ensures.value in
    accepted _ _ _ (λ _. Lapsed run h) c.in_ok-pass.field-0 (sym answer) (c.pass.new.detector, (search rules, refl))
