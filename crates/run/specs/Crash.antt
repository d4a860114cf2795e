-- Crashes and passes.
use Rattle.std.specs.Prelude.{ℕ, ◌+◌, ◌*◌, Bool, true, not, List, [], ◌∷◌, length, Ok, count_by, Result, nat_le}
use Rattle.value.specs.declared.Value.{Ghosts}
use Rattle.message.specs.Format.{next}
use Rattle.station.specs.declared.state.Station.{Station}
use Rattle.run.specs.Numbers.{Numbers, tables_fit}
use Rattle.run.specs.Refusals.{refusing}
use Rattle.run.specs.Records.{changed, named, station_at}
use Rattle.run.specs.declared.refusal.Refusal.{Refusal}
use Rattle.run.specs.declared.refusal.Refusal.TheVariants as refusal

module _ {V : Type 0} where
  -- the record of a station whose part has ended
  abbrev pub ended : Station V → Station V
  ended s = record s { crashed = true }

  abbrev pub crashes : List (Station V) → ℕ
  crashes stations = count_by (λ s. s.crashed) stations

  -- a crash after which a majority would live no more
  abbrev pub too_many : Numbers → List (Station V) → Bool
  too_many run stations = nat_le run.n (2 * (crashes stations + 1))

  -- the stations after a crash that is answered so
  abbrev pub after_crash : List (Station V) → ℕ → Result (Unit {0}) Refusal → List (Station V)
  after_crash stations i r = changed stations i (ended (station_at stations i)) r

module _ {V : Type 0} (of : Ghosts V) where
  -- whether station i may crash
  unfoldable pub crash_answer : Numbers → List (Station V) → ℕ → ℕ → Result (Unit {0}) Refusal
  crash_answer run stations bytes i =
      next (named of run stations bytes i) (λ _. refusing ((too_many run stations, refusal.Majority) ∷ []) (Ok tt))

  -- whether the failure detector may pass
  abbrev pub pass_answer : Numbers → List (Station V) → ℕ → Result (Unit {0}) Refusal
  pass_answer run stations bytes = refusing ((not (tables_fit of.WIDTH run (length stations) bytes), refusal.Tables) ∷ []) (Ok tt)
