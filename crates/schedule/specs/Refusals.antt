-- Why a line did nothing.
use Rattle.std.specs.Prelude.{ℕ, Result}
use Rattle.run.specs.declared.refusal.Refusal.{Refusal}
use Rattle.run.specs.Refusals.{number_of}
use Rattle.schedule.specs.declared.refusal.LineRefusal.{LineRefusal}
use Rattle.schedule.specs.declared.refusal.LineRefusal.TheVariants as refusal

-- what came of a line: it was accepted, or it did nothing
abbrev pub Outcome : Type 0
Outcome = Result (Unit {0}) LineRefusal

-- the number that is printed of a refusal
abbrev pub line_number : LineRefusal → ℕ
line_number (refusal.Run e) = number_of e
line_number refusal.Line = 15

-- a refusal of the run
abbrev pub of_run : Refusal → LineRefusal
of_run e = refusal.Run e
