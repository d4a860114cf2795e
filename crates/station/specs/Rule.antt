-- The rules of one station.
use Rattle.std.specs.Prelude.{◌≡◌, ℕ, ◌+◌, ◌*◌, ◌%◌, ◌<◌, ◌≤◌, max, Bool, true, false, cond, not, ◌&&◌, is_some, Some, None, Ok, Err, Option, Result, ◌==◌, nat_le, nat_lt}
use Rattle.std.specs.Option.{option_map}
use Rattle.station.specs.declared.state.Station.{Station}
use Rattle.station.specs.declared.state.Phase.{Phase}
use Rattle.station.specs.declared.state.Phase.TheVariants as phase
use Rattle.station.specs.declared.broadcast.Content.{Content}
use Rattle.station.specs.declared.broadcast.Content.TheVariants as content
use Rattle.station.specs.declared.step.Step.{Step}
use Rattle.station.specs.declared.broadcast.Broadcast.{Broadcast}
use Rattle.station.specs.declared.step.Outcome.{Outcome}
use Rattle.station.specs.declared.step.Outcome.TheVariants as outcome
use Rattle.station.specs.declared.step.Refused.{Refused}
use Rattle.station.specs.declared.step.Refused.TheVariants as refused

-- what the run tests of a record before a station takes a message
pub record Sound {V : Type 0} (s : Station V) : Type 0 where
  pub few : 3 ≤ s.n
  pub most : s.n ≤ 32
  pub number : s.number < s.n
  pub origin : s.origin < s.n
  pub round : s.round ≤ 60000
  pub stamp : s.stamp ≤ 6000000
  pub heard : s.heard ≤ s.n
  pub doubts : s.doubts ≤ s.n
  pub sent : s.sent ≤ s.n * (3 * s.round + 4)
  pub estimate : is_some s.estimate ≡ true

abbrev pub in_first : Phase → Bool
in_first phase.First = true
in_first phase.Second = false

module _ {V : Type 0} where
  -- what the run tests of the record of station i among n before the start
  abbrev pub formed : ℕ → ℕ → Station V → Bool
  formed n i s =
      (s.number == i) && s.n == n && nat_lt s.origin n && nat_le s.round 60000 && nat_le s.stamp 6000000
      && nat_le s.heard n && nat_le s.doubts n && nat_le s.sent (n * (3 * s.round + 4))

  -- and once the run has started: it then has an estimate too
  abbrev pub sound : ℕ → ℕ → Station V → Bool
  sound n i s = formed n i s && is_some s.estimate

  -- the record of station i among n as the run is opened
  abbrev pub fresh : ℕ → ℕ → Station V
  fresh n i = record {
    number = i;
    n = n;
    round = 0;
    phase = phase.First;
    estimate = None;
    origin = i;
    mark = false;
    heard = 0;
    doubts = 0;
    stamp = 0;
    sent = 0;
    decision = None;
    crashed = false;
  }

  -- a station's proposal is its first estimate
  abbrev pub proposing : Station V → V → Station V
  proposing s v = record s { estimate = Some v }

  abbrev pub coordinator : Station V → ℕ
  coordinator s = s.round % s.n

  abbrev pub enough : Station V → ℕ → Bool
  enough s k = nat_lt s.n (2 * k)

  -- a step that gives out nothing
  abbrev pub quiet : Outcome → Step V
  quiet o = record { sent = None; outcome = o }

  -- a step that gives out what there is to give
  abbrev pub step_maybe_sending : ℕ → ℕ → Option (Content V) → Outcome → Step V
  step_maybe_sending r t m o = record { sent = option_map (λ c. record { round = r; stamp = t; content = c }) m; outcome = o }

  -- a step that gives out this
  abbrev pub sending : ℕ → ℕ → Content V → Outcome → Step V
  sending r t m o = step_maybe_sending r t (Some m) o

  -- records that differ in one respect
  abbrev pub at_stamp : Station V → ℕ → Station V
  at_stamp s t = record s { stamp = t }

  abbrev pub having_heard : Station V → ℕ → Station V
  having_heard s h = record s { heard = h }

  abbrev pub having_doubts : Station V → ℕ → Station V
  having_doubts s d = record s { doubts = d }

  abbrev pub holding : Station V → Option V → ℕ → Station V
  holding s e o = record s { estimate = e; origin = o }

  abbrev pub in_phase : Station V → Phase → Station V
  in_phase s p = record s { phase = p }

  abbrev pub deciding : Station V → Option V → Station V
  deciding s d = record s { decision = d }

  -- one broadcast more
  abbrev pub sent_all : Station V → Station V
  sent_all s = record s { sent = s.sent + s.n }

  -- a round as it begins, but for what is sent
  abbrev pub in_round : Station V → ℕ → Station V
  in_round s r = record s { round = r; phase = phase.First; origin = s.number; mark = false; heard = 0; doubts = 0 }

  abbrev pub decided : Station V → ℕ → V → ℕ → Station V × Step V
  decided s t v r =
      (sent_all (deciding (at_stamp s t) (Some v)), sending r (t + 1) (content.Decision v) outcome.Decided)

  abbrev pub adopted : Station V → ℕ → ℕ → V → Station V × Step V
  adopted s t o v =
      cond (coordinator s == s.number)
      (holding (having_heard (at_stamp s t) 1) (Some v) o, quiet outcome.Counted)
      (sent_all (holding (having_heard (at_stamp s t) 1) (Some v) o), sending s.round (t + 1) (content.First o v) outcome.Counted)

  abbrev pub counted_first : Station V → ℕ → Station V × Step V
  counted_first s t =
      cond (enough s (s.heard + 1)) (
        sent_all (deciding (having_heard (at_stamp s t) (s.heard + 1)) s.estimate),
        step_maybe_sending s.round (t + 1) (option_map content.Decision s.estimate) outcome.Decided,
      )
      (having_heard (at_stamp s t) (s.heard + 1), quiet outcome.Counted)

  abbrev pub second_of : Station V → Option (Content V)
  second_of s = option_map (content.Second s.origin) s.estimate

  abbrev pub counted_suspicion : Station V → ℕ → Station V × Step V
  counted_suspicion s t =
      cond (enough s (s.doubts + 1)) (
        sent_all (having_heard (in_phase (having_doubts (at_stamp s t) (s.doubts + 1)) phase.Second) 0),
        step_maybe_sending s.round (t + 1) (second_of s) outcome.EnteredSecond,
      )
      (having_doubts (at_stamp s t) (s.doubts + 1), quiet outcome.Counted)

  abbrev pub preferred : Station V → ℕ → V → Option V × ℕ
  preferred s o v = cond (coordinator s == o) (Some v, o) (s.estimate, s.origin)

  abbrev pub joined_second : Station V → ℕ → ℕ → V → Station V × Step V
  joined_second s t o v = (
    sent_all (holding (having_heard (in_phase (at_stamp s t) phase.Second) 1) (preferred s o v).0 (preferred s o v).1),
    step_maybe_sending s.round (t + 1) (second_of s) outcome.EnteredSecond,
  )

  abbrev pub began : Station V → ℕ → Option V → ℕ → Station V × Step V
  began s t e r =
      cond (r % s.n == s.number) (
        sent_all (in_round (holding (at_stamp s t) e s.origin) r),
        step_maybe_sending r (t + 1) (option_map (content.First s.number) e) outcome.BeganRound,
      )
      (in_round (holding (at_stamp s t) e s.origin) r, quiet outcome.BeganRound)

  -- the record after round 0 has begun, and what is sent then
  abbrev pub started : Station V → Station V × Step V
  started s = began s s.stamp s.estimate 0

  unfoldable pub counted_second : Station V → ℕ → ℕ → V → Station V × Step V
  counted_second s t o v =
      cond (enough s (s.heard + 1))
      (began s t (preferred s o v).0 (s.round + 1))
      (holding (having_heard (at_stamp s t) (s.heard + 1)) (preferred s o v).0 (preferred s o v).1, quiet outcome.Counted)

  -- in the same round, neither decided nor told a decision
  abbrev pub in_round_rule : Station V → ℕ → Phase → Content V → Station V × Step V
  in_round_rule s t phase.First (content.First o v) = cond (s.heard == 0) (adopted s t o v) (counted_first s t)
  in_round_rule s t phase.First (content.Second o v) = joined_second s t o v
  in_round_rule s t phase.First content.Suspicion = counted_suspicion s t
  in_round_rule s t phase.First (content.Decision v) = (s, quiet outcome.Nothing)
  in_round_rule s t phase.Second (content.First o v) = (s, quiet outcome.Nothing)
  in_round_rule s t phase.Second (content.Second o v) = counted_second s t o v
  in_round_rule s t phase.Second content.Suspicion = (s, quiet outcome.Nothing)
  in_round_rule s t phase.Second (content.Decision v) = (s, quiet outcome.Nothing)

  abbrev pub accepted : Station V × Step V → Station V × Result (Step V) Refused
  accepted p = (p.0, Ok p.1)

  -- by the order of the rounds
  abbrev pub round_rule : Station V → Broadcast V → Station V × Result (Step V) Refused
  round_rule s m =
      cond (nat_lt m.round s.round)
      (s, Ok (quiet outcome.Nothing))
      (cond (nat_lt s.round m.round)
      (s, Err refused.Early)
      (accepted (in_round_rule s (max s.stamp m.stamp) s.phase m.content)))

  abbrev pub content_rule : Station V → Broadcast V → Content V → Station V × Result (Step V) Refused
  content_rule s m (content.Decision v) = accepted (decided s (max s.stamp m.stamp) v m.round)
  content_rule s m (content.First o v) = round_rule s m
  content_rule s m (content.Second o v) = round_rule s m
  content_rule s m content.Suspicion = round_rule s m

  abbrev pub take_rule : Station V → Broadcast V → Station V × Result (Step V) Refused
  take_rule s m = cond (is_some s.decision) (s, Ok (quiet outcome.Nothing)) (content_rule s m m.content)

  -- whether a live station is to say that it suspects its coordinator, if it does
  abbrev pub due : Station V → Bool → Bool
  due s suspected = in_first s.phase && (not (is_some s.decision) && not s.mark && suspected)

  abbrev pub marked : Station V → Station V
  marked s = record s { mark = true }

  abbrev pub consult_rule : Station V → Bool → Station V × Step V
  consult_rule s suspected =
      cond (due s suspected)
      (sent_all (marked s), sending s.round (s.stamp + 1) content.Suspicion outcome.Counted)
      (s, quiet outcome.Nothing)
