-- What the run answers is what the session answers.
use Rattle.std.proofs.Common.{◌≡◌, List, length, vec_items, vec_len, Ok, Result, sym, refl, subst}
use Rattle.std.specs.Vec.{with_items}
use Rattle.std.proofs.lemmas.List.{with_items_is}
use Rattle.run.specs.declared.refusal.Refusal.{Refusal}
use Rattle.value.specs.declared.number.Number.{Number}
use Rattle.station.specs.declared.state.Station.{Station}
use Rattle.schedule.specs.declared.desk.Desk.{Desk}
use Rattle.schedule.specs.States.{State}
use Rattle.schedule.specs.Calls.{Answered}

-- a call that the run accepts
pub accepted : {X : Type 0} (s t : State) (r : Result X Refusal) (P : X → State → Type 0) (a : X) → r ≡ Ok a → P a t → Answered s r P (Ok tt) t
accepted s t r P a e h = subst (λ z. Answered s z P (Ok tt) t) (sym e) (refl, h)

-- the same of a call that was lent the stations of a desk
pub accepted_lent : {X : Type 0} (s t : State) (r : Result X Refusal) (P : X → State → Type 0) (a : X) (desk : Desk) (ss : List (Station Number)) → length ss ≡ vec_len desk.stations → r ≡ Ok a → (vec_items (with_items desk.stations ss) ≡ ss → P a t) → Answered s r P (Ok tt) t
accepted_lent s t r P a desk ss l e h = accepted s t r P a e (h (with_items_is desk.stations ss l))
