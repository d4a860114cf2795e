-- What is known of a delivery and of a consultation that no test refuses.
use Rattle.std.proofs.Common.{◌≡◌, ℕ, ◌-◌, ◌*◌, ◌<◌, ◌≤◌, Bool, true, false, cond, ◌&&◌, leb, length, Some, None, Ok, Err, Option, Result, sym, refl, ap, ◌∙◌, subst, arith, ltb-false, le-leb}
use Rattle.value.specs.declared.Value.{Ghosts}
use Rattle.message.specs.declared.types.Head.{Head}
use Rattle.message.specs.declared.types.Message.{Message}
use Rattle.message.specs.declared.types.Reason.TheVariants as reason
use Rattle.message.specs.Format.{all_within, fault, head_of, head_within, within}
use Rattle.message.proofs.Trips.{step}
use Rattle.station.specs.Rule.{Sound, consult_rule, quiet, take_rule}
use Rattle.station.specs.declared.state.Station.{Station}
use Rattle.station.specs.declared.broadcast.Content.{Content}
use Rattle.station.specs.declared.broadcast.Content.TheVariants as content
use Rattle.station.specs.declared.step.Step.{Step}
use Rattle.station.specs.declared.broadcast.Broadcast.{Broadcast}
use Rattle.station.specs.declared.step.Outcome.TheVariants as outcome
use Rattle.station.specs.declared.step.Refused.{Refused}
use Rattle.table.specs.Messages.{head_from, message_with, size}
use Rattle.run.specs.Deliver.{emptied, paired, tried}
use Rattle.run.specs.Incoming.{Known, Origin, Ranges}
use Rattle.run.specs.Numbers.{Numbers}
use Rattle.run.specs.Posting.{Postable}
use Rattle.run.specs.Ready.{Fitting, Member, Ready, Within}
use Rattle.run.specs.declared.tables.Tables.{Tables}
use Rattle.run.proofs.Posts.{Fair, FairAnswer, consult_fair, take_fair}

within_ok : (i low high x : ℕ) → low ≤ x → x ≤ high → within i low high x ≡ Ok tt
within_ok i low high x l h =
    ap (λ b. cond (b && leb x high) (Ok tt) (Err (fault reason.Range i))) (le-leb low x l)
    ∙ ap (λ b. cond b (Ok tt) (Err (fault reason.Range i))) (le-leb x high h)

head_ok : (h : Head) → Ranges h → head_within h ≡ Ok tt
head_ok h r =
    step _ (within_ok 4 0 31 h.sender (omega arith) r.sender)
    ∙ step _ (within_ok 8 0 31 h.receiver (omega arith) r.receiver)
    ∙ step _ (within_ok 12 0 60000 h.round (omega arith) r.round)
    ∙ within_ok 16 1 6000000 h.stamp r.low r.stamp

module _ {V : Type 0} where
  message_ok : (n : ℕ) (h : Head) (c : Content V) → n ≤ 32 → Ranges h → Origin n c → all_within (message_with h c) ≡ Ok tt
  message_ok n h (content.First o v) few r k = step _ (head_ok h r) ∙ within_ok 20 0 31 o (omega arith) (omega arith)
  message_ok n h (content.Second o v) few r k = step _ (head_ok h r) ∙ within_ok 20 0 31 o (omega arith) (omega arith)
  message_ok n h content.Suspicion few r k = head_ok h r
  message_ok n h (content.Decision v) few r k = head_ok h r

  paired_fair : (n : ℕ) (s : Station V) (r : Result (Step V) Refused) (p : Station V × Step V) → FairAnswer n s.round r → paired s r ≡ Ok p → Fair n p.0.round p.1.sent
  paired_fair n s (Ok x) p f e =
      let same : (s, x) ≡ p = cc in
      let P : Station V × Step V → Type 0 = λ q. Fair n q.0.round q.1.sent in
      subst P same f
  paired_fair n s (Err d) p f e = let k : ◌≡◌ {A = ℕ} 0 1 = cc in absurd (omega arith)

  tried_fair : (s : Station V) (i : Broadcast V) (p : Station V × Step V) → Sound s → i.round ≤ 60000 → Origin s.n i.content → tried s i ≡ Ok p → Fair s.n p.0.round p.1.sent
  unfolding tried
  tried_fair s i p sn r o = at s.crashed
    where
      at : (b : Bool) → cond b (Ok (s, quiet outcome.Nothing)) (paired (take_rule s i).0 (take_rule s i).1) ≡ Ok p → Fair s.n p.0.round p.1.sent
      at true e =
          let same : (s, quiet outcome.Nothing) ≡ p = cc in
          let P : Station V × Step V → Type 0 = λ q. Fair s.n q.0.round q.1.sent in
          subst P same tt
      at false e = paired_fair s.n (take_rule s i).0 (take_rule s i).1 p (take_fair s sn i r o).fair e

module _ {V : Type 0} (of : Ghosts V) (run : Numbers) where
  -- what is within the limits can be appended
  pub postable : (bytes i : ℕ) → run.n ≤ 32 → run.places * size of ≤ bytes → i < run.n → (q : ℕ) (sent : Option (Broadcast V)) → Within run run.waiting q sent → Fair run.n q sent → Postable of run bytes i sent
  postable bytes i many room to q None w fair = tt
  postable bytes i many room to q (Some x) w fair =
      let stamp : x.stamp ≤ 6000000 = ltb-false _ _ w.stamp in
      (w.free refl, room, w.limited refl, λ j h. message_ok run.n (head_from i j x) x.content many (record { sender = omega arith; receiver = omega arith; round = fair.0 w.round; low = fair.1; stamp = stamp }) fair.2)

module _ {V : Type 0} (of : Ghosts V) (run : Numbers) (many : run.n ≤ 32) (tables : Tables V) (fit : Fitting of run.n run.places tables) (to : ℕ) (s t : Station V) (x : Step V) (member : Member run.n to s) where
  pub delivery_ready : (m : Message V) (i : Broadcast V) → Ranges (head_of m) → Known run.n m i → tried s i ≡ Ok (t, x) → Within run (run.waiting - 1) t.round x.sent
      → Ready of (emptied run) tables (record { to = to; station = t; step = x })
  delivery_ready m i ranges known e w =
      let O : ℕ → Type 0 = λ n. Origin n i.content in
      let F : ℕ → Type 0 = λ n. Fair n t.round x.sent in
      let fair = tried_fair s i (t, x) member.holds (omega (arith, known.round, ranges.round)) (subst O (sym member.same) known.origin) e in
      record {
        fit = record { tested = fit.tested; stations = fit.stations; bytes = fit.bytes };
        to = member.below;
        post = postable of (emptied run) (length tables.bytes.now) to many fit.bytes member.below t.round x.sent (record { round = w.round; stamp = w.stamp; limited = w.limited; free = w.free }) (subst F member.same fair);
      }

  pub consult_ready : (suspected : Bool) → t ≡ (consult_rule s suspected).0 → x ≡ (consult_rule s suspected).1 → Within run run.waiting t.round x.sent → Ready of run tables (record { to = to; station = t; step = x })
  consult_ready suspected left sent w =
      let F : ℕ → Type 0 = λ n. Fair n t.round x.sent in
      let fair : Fair s.n t.round x.sent = rw (left, sent) (consult_fair s member.holds suspected) in
      record { fit = fit; to = member.below; post = postable of run (length tables.bytes.now) to many fit.bytes member.below t.round x.sent w (subst F member.same fair) }
