-- What any failure detector means.
use Rattle.detector.specs.Meaning.{Meaning, meaning}
use Rattle.detector.specs.declared.FailureDetector.{Ghosts}

-- its meaning, by what it says of itself
abbrev pub means : {D : Type 0} → Ghosts D → D → Meaning
means g d = meaning g.stations g.patience g.crashed g.wait g.suspected d
