-- Which calls of a detector are refused, and with which numbers and words.
use Rattle.std.specs.Prelude.{◌≡◌, ℕ, ◌≤◌, Bool, cond, not, ◌&&◌, Ok, Err, List, Result, ◌==◌, nat_lt, codes}
use Rattle.detector.specs.declared.error.DetectorError.{DetectorError}
use Rattle.detector.specs.declared.error.DetectorError.TheVariants.{Stations, Unknown}

abbrev pub error_number : DetectorError → ℕ
error_number Stations = 1
error_number Unknown = 3

abbrev pub error_words : DetectorError → List ℕ
error_words Stations = codes "stations"
error_words Unknown = codes "unknown"

-- n stations are refused: they are fewer than 3 or more than 32
abbrev pub RefusesStations : ℕ → DetectorError → Type 0
RefusesStations n e = (e ≡ Stations) × (3 ≤ n → n ≤ 32 → ⊥)

-- whether i and j are two different ones of n stations
abbrev pub is_pair : ℕ → ℕ → ℕ → Bool
is_pair n i j = nat_lt i n && (nat_lt j n && not (i == j))

-- a suspicion of j by i is raised or cleared where they are two different ones of n stations, and else refused
abbrev pub marking : ℕ → ℕ → ℕ → Result (Unit {0}) DetectorError
marking n i j = cond (is_pair n i j) (Ok tt) (Err Unknown)
