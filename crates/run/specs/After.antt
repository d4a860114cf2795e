-- What a call leaves, and its answer.
use Rattle.std.specs.Prelude.{ℕ, List, Ok, Result, slice_set}
use Rattle.run.specs.Numbers.{Numbers}
use Rattle.run.specs.Posting.{posted, posted_bytes}
use Rattle.run.specs.declared.plan.Plan.{Plan}
use Rattle.run.specs.declared.refusal.Refusal.{Refusal}
use Rattle.station.specs.declared.state.Station.{Station}
use Rattle.value.specs.declared.Value.{Ghosts}

-- the run and both tables after a call, and its answer
pub record After (V A : Type 0) : Type 0 where
  pub run : Numbers
  pub stations : List (Station V)
  pub bytes : List ℕ
  pub answer : Result A Refusal

abbrev pub after : {V A : Type 0} → Numbers → List (Station V) → List ℕ → Result A Refusal → After V A
after run stations bytes r = record { run = run; stations = stations; bytes = bytes; answer = r }

-- what plan p leaves of a run and its tables, and the answer
abbrev pub carried_out : {V A : Type 0} → Ghosts V → Numbers → List (Station V) → List ℕ → Plan V → A → After V A
carried_out of run stations bytes p a = after (posted run p.step.sent) (slice_set stations p.to p.station) (posted_bytes of bytes run p.to p.step.sent) (Ok a)
