use Rattle.std.proofs.Common.{arith}
use Rattle.std.proofs.lemmas.Bool.Decides.{nat_tests}
use Rattle.run.proofs.Members.{fitting_from_test}
use Rattle.run.proofs.tables.Tables.check.Goals as goal

pub returns-then-places_here-from-clause-fit : goal.returns-then-places_here-from-clause-fit
returns-then-places_here-from-clause-fit g c = fitting_from_test g.V.Value _ _ c.args.self (grind (arith, nat_tests))
