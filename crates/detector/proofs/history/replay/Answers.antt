use Rattle.std.proofs.Common.{arith, take_all}
use Rattle.std.proofs.lemmas.List.{take_more}
use Rattle.detector.specs.Means.{means}
use Rattle.detector.proofs.Histories.{performs_more, completeness}
use Rattle.detector.proofs.history.replay.Goals as goal

pub loop-event-preserved : goal.loop-event-preserved
loop-event-preserved g c =
    let more = performs_more (means g.D.FailureDetector) _ _ _ _ _ c.loop-event.invariant.performs c.make_call.ensures in
    record {
      within = omega arith;
      performs = rw (← take_more _ _ _ c.loop-event-test.true) at more;
    }

pub returns : goal.returns
returns g c = record {
  performs = rw (take_all _ _ c.loop-event-test.false) at c.loop-event.invariant.performs;
  complete = completeness (means g.D.FailureDetector) g.met.D.FailureDetector.sound;
}
