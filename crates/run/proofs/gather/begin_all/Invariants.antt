use Rattle.std.proofs.Common.{◌≡◌, ℕ, ◌<◌, ◌≤◌}
use Rattle.station.specs.Rule.{started}
use Rattle.run.specs.Records.{station_at}
use Rattle.run.proofs.gather.begin_all.Given as goal

abbrev pub invariant-loop-s : goal.invariant-loop-s
invariant-loop-s g l =
    ((k : ℕ) → k < l.s-index → station_at l.stations k ≡ (started (station_at l.initial.stations k)).0)
    × ((k : ℕ) → l.s-index ≤ k → station_at l.stations k ≡ station_at l.initial.stations k)
