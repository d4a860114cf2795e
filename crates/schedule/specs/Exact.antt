-- What a printed refusal tells.
use Rattle.std.specs.Prelude.{◌≡◌, ◌≤◌, Err, Option}
use Rattle.lines.specs.declared.syntax.Call.{Call}
use Rattle.run.specs.declared.refusal.Refusal.{Refusal}
use Rattle.schedule.specs.declared.refusal.LineRefusal.{LineRefusal}
use Rattle.schedule.specs.declared.refusal.LineRefusal.TheVariants as refusal
use Rattle.schedule.specs.Refusals.{line_number}
use Rattle.schedule.specs.States.{State}
use Rattle.schedule.specs.Sessions.{Steps}

-- what holds of every line in every state
pub record ExactRefusals : Type 0 where
  -- a refused line leaves the session as it was
  pub leaves : (s t : State) (k : Option Call) (x : LineRefusal) → Steps s k (Err x) t → t ≡ s
  -- 0 is the number of no refusal, so it is printed of accepted lines alone
  pub shows : (x : LineRefusal) → 1 ≤ line_number x
  -- 15 is the number of no refusal of a run
  pub apart : (e : Refusal) → line_number (refusal.Run e) ≤ 14
