-- Consultations.
use Rattle.std.specs.Prelude.{ℕ, Bool, List, length, is_some, Ok, Err, Result}
use Rattle.message.specs.Format.{next}
use Rattle.run.specs.Admission.{admitted}
use Rattle.run.specs.After.{After, after, carried_out}
use Rattle.run.specs.Numbers.{Numbers}
use Rattle.run.specs.Records.{station_at, named}
use Rattle.run.specs.declared.plan.Plan.{Plan}
use Rattle.run.specs.declared.refusal.Refusal.{Refusal}
use Rattle.station.specs.Rule.{consult_rule, coordinator}
use Rattle.station.specs.declared.state.Station.{Station}
use Rattle.station.specs.declared.step.Step.{Step}
use Rattle.value.specs.declared.Value.{Ghosts}

module _ {V : Type 0} (of : Ghosts V) (suspects : ℕ → ℕ → Bool) where
  -- station i asks the failure detector about its coordinator
  abbrev pub after_consulting : ℕ → Station V → Station V × Step V
  after_consulting i s = consult_rule s (suspects i (coordinator s))

  -- what the consultation of station i comes to
  unfoldable pub consult_planned : Numbers → List (Station V) → ℕ → ℕ → Result (Plan V) Refusal
  consult_planned run stations bytes i =
      next (named of run stations bytes i) (λ _.
      next (admitted run run.waiting (after_consulting i (station_at stations i)).0 (after_consulting i (station_at stations i)).1) (λ _.
      Ok (record { to = i; station = (after_consulting i (station_at stations i)).0; step = (after_consulting i (station_at stations i)).1 })))

  -- what is left of a consultation that comes to this
  abbrev pub consult_finished : Numbers → List (Station V) → List ℕ → Result (Plan V) Refusal → After V Bool
  consult_finished run stations bytes (Err e) = after run stations bytes (Err e)
  consult_finished run stations bytes (Ok p) = carried_out of run stations bytes p (is_some p.step.sent)

  -- a consultation
  abbrev pub consulted : Numbers → List (Station V) → List ℕ → ℕ → After V Bool
  consulted run stations bytes i = consult_finished run stations bytes (consult_planned run stations (length bytes) i)
