use Rattle.std.proofs.Common.{◌≡◌, ℕ, ◌<◌}
use Rattle.station.specs.Rule.{fresh}
use Rattle.run.specs.Records.{station_at}
use Rattle.run.proofs.gather.reset.Given as goal

abbrev pub invariant-loop-i : goal.invariant-loop-i
invariant-loop-i g l = (k : ℕ) → k < l.i → station_at l.stations k ≡ fresh l.n k
