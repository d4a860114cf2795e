-- The run and the byte table with what a station sends.
use Rattle.std.specs.Prelude.{◌≡◌, ℕ, ◌+◌, ◌*◌, ◌<◌, ◌≤◌, List, Some, None, Ok, Option}
use Rattle.message.specs.Format.{all_within}
use Rattle.run.specs.Numbers.{Numbers, limit}
use Rattle.station.specs.declared.broadcast.Broadcast.{Broadcast}
use Rattle.table.specs.Messages.{addressed, appended, size}
use Rattle.value.specs.declared.Value.{Ghosts}

-- one broadcast more
abbrev pub extended : Numbers → Numbers
extended run = record run { waiting = run.waiting + run.n; sent = run.sent + run.n }

module _ {V : Type 0} where
  abbrev pub posted : Numbers → Option (Broadcast V) → Numbers
  posted run None = run
  posted run (Some b) = extended run

module _ {V : Type 0} (of : Ghosts V) where
  -- the table with what station i sends
  abbrev pub posted_bytes : List ℕ → Numbers → ℕ → Option (Broadcast V) → List ℕ
  posted_bytes bytes run i None = bytes
  posted_bytes bytes run i (Some b) = appended of bytes run.waiting run.n i b

  -- that what station i sends can be written behind the waiting messages
  abbrev pub Postable : Numbers → ℕ → ℕ → Option (Broadcast V) → Type 0
  Postable run bytes i None = Unit {0}
  Postable run bytes i (Some b) =
      (run.waiting + run.n ≤ run.places) × (run.places * size of ≤ bytes) × (run.sent + run.n ≤ limit run)
      × ((j : ℕ) → j < run.n → all_within (addressed i b j) ≡ Ok tt)
