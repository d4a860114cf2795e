-- What each call of a line answers and leaves.
use Rattle.std.specs.Prelude.{◌≡◌, ℕ, min, List, length, Ok, Err, Result}
use Rattle.value.specs.declared.number.Number.{Number}
use Rattle.value.specs.contracts.kinds.NumberValue.TheImpl as number
use Rattle.detector.specs.History.{Telling}
use Rattle.detector.specs.Meaning.{Fresh, Passed}
use Rattle.detector.specs.Means.{means}
use Rattle.detector.specs.declared.patient.PatientDetector.{PatientDetector}
use Rattle.detector.specs.contracts.patient.PatientDetectorFailureDetector.TheImpl as patient
use Rattle.station.specs.Rule.{started}
use Rattle.station.specs.declared.state.Station.{Station}
use Rattle.run.specs.Numbers.{Numbers, unsent}
use Rattle.run.specs.Gather.{Begun, Reset, after_proposal, opening, propose_answer, start_result}
use Rattle.run.specs.After.{After}
use Rattle.run.specs.Consult.{consulted}
use Rattle.run.specs.Deliver.{delivered}
use Rattle.run.specs.Posting.{posted_bytes}
use Rattle.run.specs.Records.{station_at}
use Rattle.run.specs.Crash.{after_crash, crash_answer, pass_answer}
use Rattle.run.specs.declared.refusal.Refusal.{Refusal}
use Rattle.schedule.specs.declared.refusal.LineRefusal.TheVariants as refusal
use Rattle.schedule.specs.Refusals.{Outcome}
use Rattle.schedule.specs.Tables.{Blank}
use Rattle.schedule.specs.States.{Held, State, idle, gathering, running}

-- a call in state s that the run answers so: a refusal is the run's own and leaves the state, and else P says what is left
abbrev pub Answered : {X : Type 0} → State → Result X Refusal → (X → State → Type 0) → Outcome → State → Type 0
Answered s (Err e) P x t = (x ≡ Err (refusal.Run e)) × (t ≡ s)
Answered s (Ok a) P x t = (x ≡ Ok tt) × P a t

-- what a run is opened with: records that are reset, an empty byte table, and a detector that was told of no crash
pub record Ready (n patience : ℕ) (h : Held) : Type 0 where
  pub many : length h.stations ≡ n
  pub reset : Reset n h.stations
  pub bytes : Blank 19200 h.bytes
  pub detector : Fresh n (min patience 100) (means patient.ghosts h.detector)

-- a run that was opened with these numbers
abbrev pub Opened : ℕ → ℕ → ℕ × ℕ → State → Type 0
Opened n patience q t = (h : Held) × (Ready n patience h × (t ≡ gathering (unsent q.0 q.1) h))

-- the opening of a run over 600 places of 32 bytes
abbrev pub Opens : ℕ → ℕ → Outcome → State → Type 0
Opens n patience = Answered idle (opening (number.ghosts).WIDTH n n n 19200) (Opened n patience)

-- station i has proposed the number v
abbrev pub Proposed : Numbers → Held → ℕ → ℕ → State → Type 0
Proposed run h i v t =
    (w : Number) × ((w.value ≡ v)
    × (t ≡ gathering run (record { stations = after_proposal h.stations i w (Ok tt); bytes = h.bytes; detector = h.detector })))

abbrev pub Proposes : Numbers → Held → ℕ → ℕ → Outcome → State → Type 0
Proposes run h i v =
    Answered (gathering run h) (propose_answer number.ghosts run h.stations (length h.bytes) i) (λ _. Proposed run h i v)

-- round 0 has begun at every station, and the coordinator has sent
abbrev pub Started : Numbers → Held → State → Type 0
Started run h t =
    (ss : List (Station Number)) × ((length ss ≡ length h.stations) × (Begun h.stations ss
    × (t ≡ running (start_result number.ghosts run h.stations (length h.bytes)).0
    (record { stations = ss; bytes = posted_bytes number.ghosts h.bytes run 0 (started (station_at h.stations 0)).1.sent; detector = h.detector }))))

abbrev pub Starts : Numbers → Held → Outcome → State → Type 0
Starts run h =
    Answered (gathering run h) (start_result number.ghosts run h.stations (length h.bytes)).1 (λ _. Started run h)

-- the state after a call that leaves the run and both tables so, and the detector as it is
abbrev pub left : {X : Type 0} → Held → After Number X → State
left h a = running a.run (record { stations = a.stations; bytes = a.bytes; detector = h.detector })

-- a call that comes to this
abbrev pub Leaves : {X : Type 0} → Numbers → Held → After Number X → Outcome → State → Type 0
Leaves run h a = Answered (running run h) a.answer (λ _ t. t ≡ left h a)

-- the message at place k is delivered
abbrev pub Delivers : Numbers → Held → ℕ → Outcome → State → Type 0
Delivers run h k = Leaves run h (delivered number.ghosts run h.stations h.bytes k)

-- station i is consulted
abbrev pub Consults : Numbers → Held → ℕ → Outcome → State → Type 0
Consults run h i = Leaves run h (consulted number.ghosts ((patient.ghosts).suspected h.detector) run h.stations h.bytes i)

-- station i has crashed, and the detector was told
abbrev pub Crashed : Numbers → Held → ℕ → State → Type 0
Crashed run h i t =
    (d : PatientDetector) × (Telling (means patient.ghosts) i h.detector d
    × (t ≡ running run (record { stations = after_crash h.stations i (Ok tt); bytes = h.bytes; detector = d })))

abbrev pub Crashes : Numbers → Held → ℕ → Outcome → State → Type 0
Crashes run h i =
    Answered (running run h) (crash_answer number.ghosts run h.stations (length h.bytes) i) (λ _. Crashed run h i)

-- the detector has passed
abbrev pub Lapsed : Numbers → Held → State → Type 0
Lapsed run h t =
    (d : PatientDetector) × (Passed (means patient.ghosts h.detector) (means patient.ghosts d)
    × (t ≡ running run (record { stations = h.stations; bytes = h.bytes; detector = d })))

abbrev pub Passes : Numbers → Held → Outcome → State → Type 0
Passes run h =
    Answered (running run h) (pass_answer number.ghosts run h.stations (length h.bytes)) (λ _. Lapsed run h)
