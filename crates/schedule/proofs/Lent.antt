-- A desk whose tables a call was lent.
use Rattle.std.proofs.Common.{◌≡◌, ℕ, List, length, vec_len}
use Rattle.std.specs.Vec.{with_items}
use Rattle.std.proofs.lemmas.List.{with_items_is}
use Rattle.value.specs.declared.number.Number.{Number}
use Rattle.station.specs.declared.state.Station.{Station}
use Rattle.schedule.specs.declared.desk.Desk.{Desk}
use Rattle.schedule.specs.States.{Held, held}

-- what the desk holds is what the call left in both tables
pub held_lent : (desk : Desk) (ss : List (Station Number)) (bs : List ℕ) → length ss ≡ vec_len desk.stations → length bs ≡ vec_len desk.bytes → ◌≡◌ {A = Held} (record { stations = ss; bytes = bs; detector = desk.detector }) (held (record { stations = with_items desk.stations ss; bytes = with_items desk.bytes bs; detector = desk.detector }))
held_lent desk ss bs l m = simp (with_items_is desk.stations ss l, with_items_is desk.bytes bs m)
