-- From the opening of a run to its start.
use Rattle.std.specs.Prelude.{◌≡◌, ℕ, ◌+◌, ◌*◌, ◌/◌, ◌<◌, Bool, not, ◌||◌, List, [], ◌∷◌, length, replicate, is_some, Ok, Err, Result, ◌==◌, nat_le, nat_lt}
use Rattle.std.specs.List.{enumerate_from, list_all}
use Rattle.value.specs.declared.Value.{Ghosts}
use Rattle.station.specs.Rule.{formed, fresh, proposing, started}
use Rattle.station.specs.declared.state.Station.{Station}
use Rattle.station.specs.declared.step.Step.{Step}
use Rattle.table.specs.Messages.{size}
use Rattle.table.specs.Places.{put}
use Rattle.run.specs.Admission.{late}
use Rattle.run.specs.Posting.{posted, posted_bytes}
use Rattle.run.specs.Records.{changed, station_at}
use Rattle.run.specs.Numbers.{Numbers, gathered, numbers, tables_fit}
use Rattle.run.specs.Refusals.{refusing}
use Rattle.run.specs.declared.gathering.Gathering.{Gathering}
use Rattle.run.specs.declared.running.Running.{Running}
use Rattle.run.specs.declared.refusal.Refusal.{Refusal}
use Rattle.run.specs.declared.refusal.Refusal.TheVariants as refusal

-- the stations and places of a run that is opened with n, by a detector of so many stations, over so many stations and bytes
abbrev pub opening : ℕ → ℕ → ℕ → ℕ → ℕ → Result (ℕ × ℕ) Refusal
opening wide n known stations bytes = refusing
    ((nat_lt n 3 || nat_lt 32 n, refusal.Stations) ∷
    (not (known == n), refusal.Stations) ∷
    (not (stations == n), refusal.Tables) ∷
    (nat_lt (bytes / (24 + wide)) n || nat_lt 4096 (bytes / (24 + wide)), refusal.Tables) ∷ [])
    (Ok (n, bytes / (24 + wide)))

-- the stations and places of an opened run
abbrev pub opened : Result Gathering Refusal → Result (ℕ × ℕ) Refusal
opened (Ok g) = Ok (g.n, g.places)
opened (Err e) = Err e

module _ {V : Type 0} where
  -- each record as the run is opened
  pub record Reset (n : ℕ) (stations : List (Station V)) : Type 0 where
    pub each : (i : ℕ) → i < n → station_at stations i ≡ fresh n i

  -- the record of station i, if there is one, is one of before the start
  unfoldable pub record_formed : ℕ → List (Station V) → ℕ → Bool
  record_formed n stations i = nat_le n i || formed n i (station_at stations i)

  -- each record is one of before the start
  abbrev pub all_formed : ℕ → List (Station V) → Bool
  all_formed n stations = list_all (λ p. formed n p.0 p.1) (enumerate_from 0 stations)

  -- each station has proposed
  abbrev pub all_proposed : List (Station V) → Bool
  all_proposed stations = list_all (λ s. is_some s.estimate) stations

  -- round 0 has begun at each station
  pub record Begun (stations stations' : List (Station V)) : Type 0 where
    pub each : (i : ℕ) → i < length stations → station_at stations' i ≡ (started (station_at stations i)).0

  -- the stations after a proposal that is answered so
  abbrev pub after_proposal : List (Station V) → ℕ → V → Result (Unit {0}) Refusal → List (Station V)
  after_proposal stations i v r = changed stations i (proposing (station_at stations i) v) r

module _ {V : Type 0} (of : Ghosts V) where
  -- the byte table after an opening that is answered so
  abbrev pub cleared : Result Gathering Refusal → List ℕ → List ℕ
  cleared (Ok g) bytes = put bytes 0 (replicate (g.places * size of) 0)
  cleared (Err e) bytes = bytes

  -- whether station i may propose
  unfoldable pub propose_answer : Numbers → List (Station V) → ℕ → ℕ → Result (Unit {0}) Refusal
  propose_answer run stations bytes i = refusing
      ((not (tables_fit of.WIDTH run (length stations) bytes), refusal.Tables) ∷
      (not (record_formed run.n stations i), refusal.Tables) ∷
      (nat_le run.n i, refusal.Unknown) ∷
      (is_some (station_at stations i).estimate, refusal.Repeated) ∷ [])
      (Ok tt)

  -- what the coordinator of round 0 sends, if the run may start
  unfoldable pub start_planned : Numbers → List (Station V) → ℕ → Result (Step V) Refusal
  start_planned run stations bytes = refusing
      ((not (tables_fit of.WIDTH run (length stations) bytes), refusal.Tables) ∷
      (not (all_formed run.n stations), refusal.Tables) ∷
      (not (all_proposed stations), refusal.Missing) ∷
      (late (started (station_at stations 0)).1.sent, refusal.Stamp) ∷ [])
      (Ok (started (station_at stations 0)).1)

  -- what is left of a start that comes to this
  abbrev pub start_finished : Numbers → Result (Step V) Refusal → Numbers × Result (Unit {0}) Refusal
  start_finished run (Ok step) = (posted run step.sent, Ok tt)
  start_finished run (Err e) = (run, Err e)

  -- the numbers that a start leaves, and its answer
  abbrev pub start_result : Numbers → List (Station V) → ℕ → Numbers × Result (Unit {0}) Refusal
  start_result run stations bytes = start_finished run (start_planned run stations bytes)

  -- the byte table after a start that is answered so
  abbrev pub after_start : Numbers → List (Station V) → List ℕ → Result Running (Gathering × Refusal) → List ℕ
  after_start run stations bytes (Ok r) = posted_bytes of bytes run 0 (started (station_at stations 0)).1.sent
  after_start run stations bytes (Err e) = bytes

-- what a start hands on: the running run's numbers, or those of the gathering with the refusal
abbrev pub handed : Result Running (Gathering × Refusal) → Numbers × Result (Unit {0}) Refusal
handed (Ok r) = (numbers r, Ok tt)
handed (Err p) = (gathered p.0, Err p.1)
