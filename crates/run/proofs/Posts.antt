-- What a station sends is within the ranges of a message, if its round is.
use Rattle.std.proofs.Common.{◌≡◌, ℕ, ◌+◌, ◌%◌, ◌<◌, ◌≤◌, max, Bool, eqb, ltb, is_some, Some, None, Ok, Err, Option, Result, inl, inr, arith}
use Rattle.std.proofs.lemmas.Bool.{cases_Bool}
use Rattle.std.specs.Option.{option_map}
use Rattle.station.specs.Rule.{Sound, adopted, began, consult_rule, content_rule, coordinator, counted_first, counted_second, counted_suspicion, due, enough, in_round_rule, joined_second, preferred, round_rule, started, take_rule}
use Rattle.station.specs.declared.state.Station.{Station}
use Rattle.station.specs.declared.state.Phase.{Phase}
use Rattle.station.specs.declared.state.Phase.TheVariants as phase
use Rattle.station.specs.declared.broadcast.Content.{Content}
use Rattle.station.specs.declared.broadcast.Content.TheVariants as content
use Rattle.station.specs.declared.step.Step.{Step}
use Rattle.station.specs.declared.broadcast.Broadcast.{Broadcast}
use Rattle.station.specs.declared.step.Refused.{Refused}
use Rattle.run.specs.Incoming.{Origin}

module _ {V : Type 0} where
  -- what one of n stations sends, which is then in round q
  abbrev pub Fair : ℕ → ℕ → Option (Broadcast V) → Type 0
  Fair n q None = Unit {0}
  Fair n q (Some b) = (q ≤ 60000 → b.round ≤ 60000) × (1 ≤ b.stamp) × Origin n b.content

  maybe_fair : (n q r t : ℕ) (f : V → Content V) (e : Option V) → (q ≤ 60000 → r ≤ 60000) → 1 ≤ t → ((v : V) → Origin n (f v)) → Fair n q (option_map (λ c. record { round = r; stamp = t; content = c }) (option_map f e))
  maybe_fair n q r t f None h l o = tt
  maybe_fair n q r t f (Some v) h l o = (h, l, o v)

  -- (records, so that antt finds the pair that they speak of)
  record FairStep (n : ℕ) (p : Station V × Step V) : Type 0 where
    pub fair : Fair n p.0.round p.1.sent

  abbrev pub FairAnswer : ℕ → ℕ → Result (Step V) Refused → Type 0
  FairAnswer n q (Ok x) = Fair n q x.sent
  FairAnswer n q (Err e) = Unit {0}

  pub record FairResult (n : ℕ) (p : Station V × Result (Step V) Refused) : Type 0 where
    pub fair : FairAnswer n p.0.round p.1

  module _ (s : Station V) (sound : Sound s) where
    began_fair : (t : ℕ) (e : Option V) (r : ℕ) → FairStep s.n (began s t e r)
    began_fair t e r =
        elim (cases_Bool (eqb (r % s.n) s.number)) [ inl b ↦ rw b (record { fair = maybe_fair s.n r r (t + 1) (content.First s.number) e (λ h. h) (omega arith) (λ v. sound.number) }) | inr b ↦ rw b (record { fair = tt }) ]

    adopted_fair : (t o : ℕ) (v : V) → o < s.n → FairStep s.n (adopted s t o v)
    adopted_fair t o v h = elim (cases_Bool (eqb (coordinator s) s.number)) [ inl b ↦ rw b (record { fair = tt }) | inr b ↦ rw b (record { fair = (λ q. q, omega arith, h) }) ]

    first_fair : (t : ℕ) → FairStep s.n (counted_first s t)
    first_fair t =
        elim (cases_Bool (enough s (s.heard + 1))) [ inl b ↦ rw b (record { fair = maybe_fair s.n s.round s.round (t + 1) content.Decision s.estimate (λ h. h) (omega arith) (λ v. tt) }) | inr b ↦ rw b (record { fair = tt }) ]

    suspicion_fair : (t : ℕ) → FairStep s.n (counted_suspicion s t)
    suspicion_fair t =
        elim (cases_Bool (enough s (s.doubts + 1))) [ inl b ↦ rw b (record { fair = maybe_fair s.n s.round s.round (t + 1) (content.Second s.origin) s.estimate (λ h. h) (omega arith) (λ v. sound.origin) }) | inr b ↦ rw b (record { fair = tt }) ]

    joined_fair : (t o : ℕ) (v : V) → FairStep s.n (joined_second s t o v)
    joined_fair t o v = record { fair = maybe_fair s.n s.round s.round (t + 1) (content.Second s.origin) s.estimate (λ h. h) (omega arith) (λ v. sound.origin) }

    second_fair : (t o : ℕ) (v : V) → FairStep s.n (counted_second s t o v)
    unfolding counted_second
    second_fair t o v = elim (cases_Bool (enough s (s.heard + 1))) [ inl b ↦ rw b (began_fair t (preferred s o v).0 (s.round + 1)) | inr b ↦ rw b (record { fair = tt }) ]

    in_round_fair : (t : ℕ) (p : Phase) (c : Content V) → Origin s.n c → FairStep s.n (in_round_rule s t p c)
    in_round_fair t phase.First (content.First o v) h = elim (cases_Bool (eqb s.heard 0)) [ inl b ↦ rw b (adopted_fair t o v h) | inr b ↦ rw b (first_fair t) ]
    in_round_fair t phase.First (content.Second o v) h = joined_fair t o v
    in_round_fair t phase.First content.Suspicion h = suspicion_fair t
    in_round_fair t phase.First (content.Decision v) h = record { fair = tt }
    in_round_fair t phase.Second (content.First o v) h = record { fair = tt }
    in_round_fair t phase.Second (content.Second o v) h = second_fair t o v
    in_round_fair t phase.Second content.Suspicion h = record { fair = tt }
    in_round_fair t phase.Second (content.Decision v) h = record { fair = tt }

    round_fair : (m : Broadcast V) → Origin s.n m.content → FairResult s.n (round_rule s m)
    round_fair m h =
        elim (cases_Bool (ltb m.round s.round)) [ inl b ↦ rw b (record { fair = tt }) | inr b ↦ rw b (elim (cases_Bool (ltb s.round m.round)) [ inl f ↦ rw f (record { fair = tt }) | inr f ↦ rw f (record { fair = (in_round_fair (max s.stamp m.stamp) s.phase m.content h).fair }) ]) ]

    content_fair : (m : Broadcast V) (c : Content V) → m.round ≤ 60000 → Origin s.n m.content → FairResult s.n (content_rule s m c)
    content_fair m (content.Decision v) r h = record { fair = (λ _. r, omega arith, tt) }
    content_fair m (content.First o v) r h = round_fair m h
    content_fair m (content.Second o v) r h = round_fair m h
    content_fair m content.Suspicion r h = round_fair m h

    pub take_fair : (m : Broadcast V) → m.round ≤ 60000 → Origin s.n m.content → FairResult s.n (take_rule s m)
    take_fair m r h = elim (cases_Bool (is_some s.decision)) [ inl b ↦ rw b (record { fair = tt }) | inr b ↦ rw b (content_fair m m.content r h) ]

    consulted_fair : (b : Bool) → FairStep s.n (consult_rule s b)
    consulted_fair b = elim (cases_Bool (due s b)) [ inl e ↦ rw e (record { fair = (λ q. q, omega arith, tt) }) | inr e ↦ rw e (record { fair = tt }) ]

    -- what goes out as round 0 begins
    pub start_fair : Fair s.n (started s).0.round (started s).1.sent
    start_fair = (began_fair s.stamp s.estimate 0).fair

    pub start_round : (started s).0.round ≡ 0
    start_round = elim (cases_Bool (eqb (0 % s.n) s.number)) [ inl b ↦ rw b | inr b ↦ rw b ]

    pub consult_fair : (b : Bool) → Fair s.n (consult_rule s b).0.round (consult_rule s b).1.sent
    consult_fair b = (consulted_fair b).fair
