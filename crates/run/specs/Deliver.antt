-- Deliveries.
use Rattle.std.specs.Prelude.{ℕ, ◌+◌, ◌-◌, ◌*◌, cond, not, List, [], ◌∷◌, length, Ok, Err, Result, nat_le}
use Rattle.std.specs.Result.{result_map_both}
use Rattle.message.specs.Format.{head_of, next}
use Rattle.message.specs.declared.types.Message.{Message}
use Rattle.run.specs.Admission.{admitted}
use Rattle.run.specs.After.{After, after, carried_out}
use Rattle.run.specs.Incoming.{incoming_for}
use Rattle.run.specs.Numbers.{Numbers, tables_fit}
use Rattle.run.specs.Records.{station_at, record_sound}
use Rattle.run.specs.Refusals.{of_message, of_step, refusing}
use Rattle.run.specs.declared.plan.Plan.{Plan}
use Rattle.run.specs.declared.refusal.Refusal.{Refusal}
use Rattle.station.specs.Rule.{quiet, take_rule}
use Rattle.station.specs.declared.broadcast.Broadcast.{Broadcast}
use Rattle.station.specs.declared.state.Station.{Station}
use Rattle.station.specs.declared.step.Outcome.{Outcome}
use Rattle.station.specs.declared.step.Refused.{Refused}
use Rattle.station.specs.declared.step.Step.{Step}
use Rattle.table.specs.Messages.{size, understood}
use Rattle.table.specs.Places.{place, taken_out}
use Rattle.value.specs.declared.Value.{Ghosts}
use Rattle.station.specs.declared.step.Outcome.TheVariants as outcome
use Rattle.run.specs.declared.refusal.Refusal.TheVariants as refusal

module _ {V : Type 0} where
  -- an answer with the record that is left beside it
  abbrev pub beside : {X : Type 0} → Station V → Result X Refusal → Result (Station V × X) Refusal
  beside s (Ok x) = Ok (s, x)
  beside s (Err e) = Err e

  -- a step with the record that it leaves, or why there is none
  abbrev pub paired : Station V → Result (Step V) Refused → Result (Station V × Step V) Refusal
  paired s r = beside s (result_map_both (λ x. x) of_step r)

  -- what a message makes of a station; one that crashed takes nothing
  unfoldable pub tried : Station V → Broadcast V → Result (Station V × Step V) Refusal
  tried s m = cond s.crashed (Ok (s, quiet outcome.Nothing)) (paired (take_rule s m).0 (take_rule s m).1)

  -- what the delivery of a message comes to
  unfoldable pub planned_for : Numbers → List (Station V) → Message V → Result (Plan V) Refusal
  planned_for run stations m =
      refusing ((not (record_sound run.n stations (head_of m).receiver), refusal.Tables) ∷ [])
      (next (of_message (incoming_for run.n m)) (λ i.
      next (tried (station_at stations (head_of m).receiver) i) (λ p.
      next (admitted run (run.waiting - 1) p.0 p.1) (λ _.
      Ok (record { to = (head_of m).receiver; station = p.0; step = p.1 })))))

  -- what the delivery from place k comes to
  unfoldable pub planned : Ghosts V → Numbers → List (Station V) → List ℕ → ℕ → Result (Plan V) Refusal
  planned of run stations bytes k =
      refusing
      ((not (tables_fit of.WIDTH run (length stations) (length bytes)), refusal.Tables) ∷
      (nat_le run.waiting k, refusal.Place) ∷ [])
      (next (of_message (understood of (place bytes (k * size of) (size of)))) (planned_for run stations))

-- one message delivered
abbrev pub emptied : Numbers → Numbers
emptied run = record run { waiting = run.waiting - 1; delivered = run.delivered + 1 }

module _ {V : Type 0} (of : Ghosts V) where
  -- what is left of a delivery that comes to this
  abbrev pub finished : Numbers → List (Station V) → List ℕ → ℕ → Result (Plan V) Refusal → After V Outcome
  finished run stations bytes k (Err e) = after run stations bytes (Err e)
  finished run stations bytes k (Ok p) = carried_out of (emptied run) stations (taken_out bytes (size of) k (run.waiting - 1)) p p.step.outcome

  -- a delivery
  abbrev pub delivered : Numbers → List (Station V) → List ℕ → ℕ → After V Outcome
  delivered run stations bytes k = finished run stations bytes k (planned of run stations bytes k)
