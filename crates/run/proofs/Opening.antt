-- What is known of a start that no test refuses.
use Rattle.std.proofs.Common.{◌≡◌, ℕ, ◌+◌, ◌*◌, ◌<◌, ◌≤◌, true, false, length, get_or, sym, ap, ◌∙◌, subst, mul-le-mul_left, arith}
use Rattle.std.proofs.lemmas.Bool.{and_from}
use Rattle.std.proofs.lemmas.List.{get_or_default}
use Rattle.value.specs.declared.Value.{Ghosts}
use Rattle.station.specs.Rule.{Sound, started}
use Rattle.station.specs.declared.state.Station.{Station}
use Rattle.station.specs.declared.step.Step.{Step}
use Rattle.run.specs.Admission.{late}
use Rattle.run.specs.Gather.{all_formed, all_proposed}
use Rattle.run.specs.Numbers.{Numbers, limit}
use Rattle.run.specs.Ready.{Fitting, Member, Starting, Within}
use Rattle.run.specs.Records.{blank, station_at}
use Rattle.run.specs.Sized.{Sized}
use Rattle.run.specs.declared.tables.Tables.{Tables}
use Rattle.run.proofs.Every.{formed_at, proposed_at}
use Rattle.run.proofs.Members.{member_from_sound}
use Rattle.run.proofs.Possible.{postable}
use Rattle.run.proofs.Posts.{Fair, start_fair, start_round}

module _ {V : Type 0} (of : Ghosts V) (run : Numbers) (sized : Sized run.n run.places) (tables : Tables V) (fit : Fitting of run.n run.places tables) (formed : all_formed run.n tables.stations.now ≡ true) (proposed : all_proposed tables.stations.now ≡ true) where
  -- the records before round 0 begins
  begins : (k : ℕ) → k < length tables.stations.now → Member run.n k (station_at tables.stations.now k)
  begins k h = let ss = tables.stations.now in member_from_sound run.n run.places k (station_at ss k) sized (omega (arith, fit.stations)) (and_from _ _ (formed_at run.n ss k h formed) (proposed_at ss k h proposed))

  -- the record that is read for station 0, whatever stands past the end
  first_read : (d : Station V) → get_or tables.stations.now 0 d ≡ station_at tables.stations.now 0
  first_read d = get_or_default tables.stations.now 0 d blank (omega (arith, fit.stations))

  pub first_sound : (d : Station V) → Sound (get_or tables.stations.now 0 d)
  first_sound d = subst Sound (sym (first_read d)) (begins 0 (omega (arith, fit.stations))).holds

  pub start_ready : (d : Station V) (x : Step V) → run.waiting ≡ 0 → run.sent ≡ 0 → x ≡ (started (get_or tables.stations.now 0 d)).1 → late x.sent ≡ false → Starting of run tables x
  start_ready d x waiting sent read l =
      let s = station_at tables.stations.now 0 in
      let e : x ≡ (started s).1 = read ∙ ap (λ s. (started s).1) (first_read d) in
      let first = begins 0 (omega (arith, fit.stations)) in
      let m : run.n * 1 ≤ run.n * run.n = mul-le-mul_left run.n (omega arith) in
      let limited : run.sent + run.n ≤ limit run = omega arith in
      let zeroth = start_round s first.holds in
      let within : Within run run.waiting (started s).0.round x.sent = record { round = omega arith; stamp = l; limited = λ _. limited; free = λ _. omega arith } in
      let F : ℕ → Type 0 = λ n. Fair n (started s).0.round x.sent in
      let fair : Fair s.n (started s).0.round x.sent = rw e (start_fair s first.holds) in
      record {
        each = λ k h. (begins k h).holds;
        step = e;
        post = postable of run (length tables.bytes.now) 0 sized.many fit.bytes (omega arith) (started s).0.round x.sent within (subst F first.same fair);
      }
