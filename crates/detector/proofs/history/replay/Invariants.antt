use Rattle.std.proofs.Common.{◌≤◌, length, take}
use Rattle.detector.specs.Means.{means}
use Rattle.detector.specs.History.{Performs}
use Rattle.detector.proofs.history.replay.Given as goal

abbrev pub invariant-loop-event : goal.invariant-loop-event
invariant-loop-event g l = record {
  within : l.event-index ≤ length l.events;
  performs : Performs (means g.D.FailureDetector) l.initial.detector (take l.event-index l.events) l.detector;
}
