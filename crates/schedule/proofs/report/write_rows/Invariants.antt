use Rattle.std.proofs.Common.{◌≡◌, ◌++◌, drop, string_bytes}
use Rattle.schedule.specs.Reports.{all_rows}
use Rattle.schedule.proofs.report.write_rows.Given as goal

abbrev pub invariant-loop-place : goal.invariant-loop-place
invariant-loop-place g l =
    string_bytes l.out ++ all_rows g.R.Row.bytes l.place (drop l.place l.rows) ≡ string_bytes l.initial.out ++ all_rows g.R.Row.bytes 0 l.rows
