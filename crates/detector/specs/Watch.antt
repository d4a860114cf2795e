-- What the records of a patient detector mean, one record for each station.
use Rattle.std.specs.Prelude.{◌≡◌, ℕ, ◌-◌, ◌≤◌, Bool, cond, ◌&&◌, ◌||◌, ◌≢◌, List, ◌==◌, slice_index_or, None, is_some, unwrap_or}
use Rattle.std.specs.Option.{option_map}
use Rattle.detector.specs.Bit.{bit}
use Rattle.detector.specs.declared.watch.Watch.{Watch}

-- the record of a station of which nothing was told
abbrev pub unwatched : Watch
unwatched = record { wait = None; raised = 0 }

-- the record of station j
abbrev pub at : List Watch → ℕ → Watch
at ws j = slice_index_or ws j unwatched

-- whether the station crashed
abbrev pub has_crashed : Watch → Bool
has_crashed w = is_some w.wait

-- how many passes are left, of a station that crashed
abbrev pub passes_left : Watch → ℕ
passes_left w = unwrap_or w.wait 0

-- it crashed, and its wait is over
abbrev pub over : Watch → Bool
over w = has_crashed w && passes_left w == 0

-- whether i suspects the station: that was raised, or its wait is over
abbrev pub suspected_by : ℕ → Watch → Bool
suspected_by i w = bit w.raised i || over w

-- the record after a pass
abbrev pub passed : Watch → Watch
passed w = record { wait = option_map (λ n. n - 1) w.wait; raised = w.raised }

-- no wait is above the patience
abbrev pub Waits : ℕ → List Watch → Type 0
Waits p ws = (j : ℕ) → passes_left (at ws j) ≤ p

-- only the record of j may differ
abbrev pub Elsewhere : ℕ → List Watch → List Watch → Type 0
Elsewhere j ws ws' = (k : ℕ) → k ≢ j → at ws' k ≡ at ws k

-- nothing was told or raised yet, of any station
abbrev pub AllUnwatched : List Watch → Type 0
AllUnwatched ws = (j : ℕ) → at ws j ≡ unwatched

-- the suspicion by i is raised in a record now, or cleared, as b says, and nothing else of it differs
pub record Mark (b : Bool) (i : ℕ) (w w' : Watch) : Type 0 where
  pub wait : w'.wait ≡ w.wait
  pub raised : (k : ℕ) → bit w'.raised k ≡ cond (k == i) b (bit w.raised k)

-- the same in the record of j, and no other record differs
pub record Marked (b : Bool) (i j : ℕ) (ws ws' : List Watch) : Type 0 where
  pub here : Mark b i (at ws j) (at ws' j)
  pub elsewhere : Elsewhere j ws ws'
