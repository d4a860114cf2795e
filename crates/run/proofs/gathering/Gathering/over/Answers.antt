use Rattle.std.proofs.Common.{◌≡◌, ◌+◌, ◌/◌, length, eq-eqb, arith}
use Rattle.std.proofs.lemmas.Bool.{and_from}
use Rattle.std.proofs.lemmas.Bool.Decides.{nat_tests}
use Rattle.run.proofs.Members.{fitting_from_test}
use Rattle.run.proofs.gathering.Gathering.over.Goals as goal

pub returns-then-n-lt-FEWEST-clause-answer : goal.returns-then-n-lt-FEWEST-clause-answer
returns-then-n-lt-FEWEST-clause-answer g c = grind (arith, nat_tests)

pub returns-then-places-n-clause-answer : goal.returns-then-places-n-clause-answer
returns-then-places-n-clause-answer g c = grind (arith, nat_tests)

pub returns-clause-fit : goal.returns-clause-fit
returns-clause-fit g c =
    let t = c.args.tables in
    let stations : length t.stations.now ≡ c.args.n = omega arith in
    let places : length t.bytes.now / (24 + g.V.Value.WIDTH) ≡ length t.bytes.now / c.place_size.result = cc in
    fitting_from_test g.V.Value _ _ t (and_from _ _ (eq-eqb _ _ stations) (eq-eqb _ _ places))
