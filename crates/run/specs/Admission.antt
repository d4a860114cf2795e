-- What a step may leave and send.
use Rattle.std.specs.Prelude.{ℕ, ◌+◌, Bool, false, ◌&&◌, [], ◌∷◌, is_some, Some, None, Ok, Option, Result, nat_lt}
use Rattle.run.specs.Numbers.{Numbers, limit}
use Rattle.run.specs.Refusals.{refusing}
use Rattle.run.specs.declared.refusal.Refusal.{Refusal}
use Rattle.station.specs.declared.broadcast.Broadcast.{Broadcast}
use Rattle.station.specs.declared.state.Station.{Station}
use Rattle.station.specs.declared.step.Step.{Step}
use Rattle.run.specs.declared.refusal.Refusal.TheVariants as refusal

module _ {V : Type 0} where
  -- whether a broadcast bears a stamp that is too high
  abbrev pub late : Option (Broadcast V) → Bool
  late None = false
  late (Some b) = nat_lt 6000000 b.stamp

  -- whether a step may be made, by what it leaves and sends behind so many waiting messages
  unfoldable pub admitted : Numbers → ℕ → Station V → Step V → Result (Unit {0}) Refusal
  admitted run waiting s step = refusing
      ((is_some step.sent && nat_lt (limit run) (run.sent + run.n), refusal.Tables) ∷
      (nat_lt 60000 s.round, refusal.Rounds) ∷
      (late step.sent, refusal.Stamp) ∷
      (is_some step.sent && nat_lt run.places (waiting + run.n), refusal.Full) ∷ [])
      (Ok tt)
