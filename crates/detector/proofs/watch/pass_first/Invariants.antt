use Rattle.std.proofs.Common.{◌≡◌, ℕ, ◌<◌, ◌≤◌}
use Rattle.detector.specs.Watch.{at, passed}
use Rattle.detector.proofs.watch.pass_first.Given as goal

abbrev pub invariant-loop-watch : goal.invariant-loop-watch
invariant-loop-watch l = record {
  done : (k : ℕ) → k < l.watch-index → at l.watch-items k ≡ passed (at l.initial.watch-items k);
  ahead : (k : ℕ) → l.watch-index ≤ k → at l.watch-items k ≡ at l.initial.watch-items k;
}
