-- The records that a call touches.
use Rattle.std.specs.Prelude.{ℕ, Bool, not, ◌||◌, List, [], ◌∷◌, length, Ok, Err, Result, nat_le, slice_index_or, slice_set}
use Rattle.run.specs.Numbers.{Numbers, tables_fit}
use Rattle.run.specs.Refusals.{refusing}
use Rattle.run.specs.declared.refusal.Refusal.{Refusal}
use Rattle.station.specs.Rule.{fresh, sound}
use Rattle.station.specs.declared.state.Station.{Station}
use Rattle.value.specs.declared.Value.{Ghosts}
use Rattle.run.specs.declared.refusal.Refusal.TheVariants as refusal

module _ {V : Type 0} where
  -- what stands past the end of the table of stations
  abbrev pub blank : Station V
  blank = fresh 0 0

  -- the record of station i
  abbrev pub station_at : List (Station V) → ℕ → Station V
  station_at stations i = slice_index_or stations i blank

  -- the record of station i, if there is one, is sound
  unfoldable pub record_sound : ℕ → List (Station V) → ℕ → Bool
  record_sound n stations i = nat_le n i || sound n i (station_at stations i)

-- the stations where a call is answered so: with s as record i if it is not refused
abbrev pub changed : {V : Type 0} → List (Station V) → ℕ → Station V → Result (Unit {0}) Refusal → List (Station V)
changed stations i s (Ok x) = slice_set stations i s
changed stations i s (Err e) = stations

-- whether a call may name station i
unfoldable pub named : {V : Type 0} → Ghosts V → Numbers → List (Station V) → ℕ → ℕ → Result (Unit {0}) Refusal
named of run stations bytes i = refusing
    ((not (tables_fit of.WIDTH run (length stations) bytes), refusal.Tables) ∷
    (not (record_sound run.n stations i), refusal.Tables) ∷
    (nat_le run.n i, refusal.Unknown) ∷
    ((station_at stations i).crashed, refusal.Crashed) ∷ [])
    (Ok tt)
