-- What the test of a record, and that of the tables, tells.
use Rattle.std.proofs.Common.{◌≡◌, ℕ, ◌+◌, ◌*◌, ◌/◌, ◌%◌, ◌<◌, true, false, not, leb, [], ◌∷◌, length, Ok, ap, arith, eqb-true, List, get_or, sym, subst}
use Rattle.std.proofs.lemmas.Bool.{and_parts}
use Rattle.std.proofs.lemmas.Bool.Decides.{nat_tests}
use Rattle.std.proofs.lemmas.List.{get_or_default}
use Rattle.std.proofs.lemmas.Nat.{div-add-mod'}
use Rattle.value.specs.declared.Value.{Ghosts}
use Rattle.message.specs.declared.types.Head.{Head}
use Rattle.message.specs.declared.types.Message.{Message}
use Rattle.message.specs.Format.{head_of}
use Rattle.station.specs.Rule.{sound}
use Rattle.station.specs.declared.broadcast.Broadcast.{Broadcast}
use Rattle.station.proofs.Sound.{sound-size, sound_true}
use Rattle.station.specs.declared.state.Station.{Station}
use Rattle.run.specs.Incoming.{Known}
use Rattle.run.specs.Numbers.{Numbers, fitting}
use Rattle.run.specs.Records.{blank, named, record_sound, station_at}
use Rattle.run.specs.Refusals.{refusing}
use Rattle.run.specs.declared.refusal.Refusal.TheVariants as refusal
use Rattle.run.specs.declared.tables.Tables.{Tables}
use Rattle.run.specs.Sized.{Sized}
use Rattle.run.specs.Ready.{Fitting, Member}

module _ {V : Type 0} where
  pub member_from_sound : (n places i : ℕ) (s : Station V) → Sized n places → i < n → sound n i s ≡ true → Member n i s
  member_from_sound n places i s z below t = record { below = below; holds = sound_true n i s z.few z.many below t; same = sound-size n i s t }

  -- the record that is read, whatever stands past the end
  member_read : (n places : ℕ) (ss : List (Station V)) (i : ℕ) (d : Station V) → Sized n places → length ss ≡ n → i < n → record_sound n ss i ≡ true → Member n i (get_or ss i d)
  unfolding record_sound
  member_read n places ss i d z l below e =
      let t : leb n i ≡ false = grind (arith, nat_tests) in
      let s : get_or ss i d ≡ station_at ss i = get_or_default ss i d blank (omega arith) in
      subst (Member n i) (sym s) (member_from_sound n places i (station_at ss i) z below (rw t at e))

  -- the record of the receiver that a head names
  pub receiver_member : (n places : ℕ) (ss : List (Station V)) (m : Message V) (i : Broadcast V) (h : Head) (d : Station V) → Sized n places → length ss ≡ n → h ≡ head_of m → Known n m i → record_sound n ss h.receiver ≡ true → Member n h.receiver (get_or ss h.receiver d)
  receiver_member n places ss m i h d z l e known t = member_read n places ss h.receiver d z l (omega (arith, known.receiver, ap (λ q. q.receiver) e)) t

  pub fitting_from_test : (of : Ghosts V) (n places : ℕ) (tables : Tables V) → fitting of.WIDTH n places (length tables.stations.now) (length tables.bytes.now) ≡ true → Fitting of n places tables
  fitting_from_test of n places tables h =
      let room = length tables.bytes.now in
      let t = and_parts _ _ h in
      let e : room / (24 + of.WIDTH) ≡ places = eqb-true _ _ t.1 in
      let d : room / (24 + of.WIDTH) * (24 + of.WIDTH) + room % (24 + of.WIDTH) ≡ room = div-add-mod' room (24 + of.WIDTH) in
      let f : room / (24 + of.WIDTH) * (24 + of.WIDTH) ≡ places * (24 + of.WIDTH) = ap (λ k. k * (24 + of.WIDTH)) e in
      record { tested = h; stations = eqb-true _ _ t.0; bytes = omega (arith, d, f) }

-- what a call that names station i is answered, where the tables fit and have its record
pub named_found : {V : Type 0} (of : Ghosts V) (run : Numbers) (tables : Tables V) (i : ℕ) → Fitting of run.n run.places tables → i < length tables.stations.now →
    named of run tables.stations.now (length tables.bytes.now) i ≡ refusing ((not (sound run.n i (station_at tables.stations.now i)), refusal.Tables) ∷ ((station_at tables.stations.now i).crashed, refusal.Crashed) ∷ []) (Ok tt)
unfolding named record_sound
named_found of run tables i fit below =
    let l : i < run.n = omega (arith, fit.stations) in
    let t : leb run.n i ≡ false = grind (arith, nat_tests) in
    rw (fit.tested, t)
