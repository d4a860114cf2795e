use Rattle.std.proofs.Common.{min, length, get_or, Ok, sym, ap, ◌∙◌, subst, rules}
use Rattle.detector.specs.Meaning.{Fresh}
use Rattle.detector.specs.contracts.patient.PatientDetectorFailureDetector.TheImpl as patient
use Rattle.detector.specs.Means.{means}
use Rattle.run.specs.Gather.{Reset}
use Rattle.run.specs.Numbers.{gathered}
use Rattle.schedule.specs.Calls.{Opens}
use Rattle.schedule.specs.States.{Held, gathering}
use Rattle.schedule.proofs.Lent.{held_lent}
use Rattle.schedule.proofs.Openings.{blank-cleared, many, opening_of, opens}
use Rattle.schedule.proofs.calls.open.Goals as goal

pub returns-in-Ok-open : goal.returns-in-Ok-open
returns-in-Ok-open c =
    let told = c.in-Ok-open.ensures in
    let new = c.in-Ok.ensures.made in
    let made = c.in_ok-desk.ensures in
    let n = c.args.n in
    let p = c.args.patience in
    let g = c.in-Ok-open.gathering in
    let desk = c.in_ok-desk.desk in
    let after = c.open.new in
    let held : Held = record { stations = after.stations; bytes = after.bytes; detector = desk.detector } in
    let known = ap (λ d. (patient.ghosts).stations d) made.detector ∙ new.2.stations in
    let answer = opening_of n _ _ _ _ told.answer known (c.deref_mut.ensures.len ∙ made.stations) (ap length c.deref_mut-2.ensures.value ∙ made.bytes.long) in
    subst (λ h. Opens n p (Ok tt) (gathering (gathered g) h)) (held_lent desk after.stations after.bytes (search rules) (search rules))
    (opens n p g held answer (record {
      many = search rules;
      reset = subst (λ k. Reset k after.stations) (many n g new.0 new.1 answer) told.stations;
      bytes = record {
        long = search rules;
        empty = λ i. ap (λ l. get_or l i 0) told.bytes ∙ blank-cleared g c.deref_mut-2.result.now (λ j. ap (λ l. get_or l j 0) c.deref_mut-2.ensures.value ∙ made.bytes.empty j) i;
      };
      detector = subst (λ d. Fresh n (min p 100) (means patient.ghosts d)) (sym made.detector) new.2;
    }))
