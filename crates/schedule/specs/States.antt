-- A session, by what it holds.
use Rattle.std.specs.Prelude.{ℕ, List, Ok, Err, Result, vec_items}
use Rattle.value.specs.declared.number.Number.{Number}
use Rattle.detector.specs.declared.patient.PatientDetector.{PatientDetector}
use Rattle.station.specs.declared.state.Station.{Station}
use Rattle.run.specs.Numbers.{Numbers, gathered, numbers}
use Rattle.run.specs.declared.gathering.Gathering.{Gathering}
use Rattle.run.specs.declared.running.Running.{Running}
use Rattle.schedule.specs.declared.desk.Desk.{Desk}
use Rattle.schedule.specs.declared.refusal.LineRefusal.{LineRefusal}
use Rattle.schedule.specs.Refusals.{Outcome}
use Rattle.schedule.specs.declared.session.Session.{Session}
use Rattle.schedule.specs.declared.session.Session.TheVariants as session

-- the tables and the failure detector of a run
pub record Held : Type 0 where
  pub stations : List (Station Number)
  pub bytes : List ℕ
  pub detector : PatientDetector

-- no run yet, or the numbers of one and what it is handed with each call
pub data State : Type 0 where
  idle : State
  gathering : Numbers → Held → State
  running : Numbers → Held → State

-- what stands on a desk
abbrev pub held : Desk → Held
held desk = record { stations = vec_items desk.stations; bytes = vec_items desk.bytes; detector = desk.detector }

-- the state of a run that gathers proposals, on its desk
abbrev pub gathering_on : Gathering → Desk → State
gathering_on run desk = gathering (gathered run) (held desk)

-- the state of a run that takes calls, on its desk
abbrev pub running_on : Running → Desk → State
running_on run desk = running (numbers run) (held desk)

-- the state of a session
abbrev pub state : Session → State
state session.Idle = idle
state (session.Gathering run desk) = gathering_on run desk
state (session.Running run desk) = running_on run desk

-- the state after an opening, which stays idle where it is refused
abbrev pub state_after : Result Session LineRefusal → State
state_after (Ok session) = state session
state_after (Err _) = idle

-- what came of an opening
abbrev pub outcome : Result Session LineRefusal → Outcome
outcome (Ok _) = Ok tt
outcome (Err refusal) = Err refusal

-- how many messages wait
abbrev pub waits : State → ℕ
waits idle = 0
waits (gathering run h) = 0
waits (running run h) = run.waiting
