use Rattle.std.proofs.Common.{◌≡◌, ℕ, List, Ok, sym, subst, rules}
use Rattle.message.specs.Format.{all_within}
use Rattle.message.specs.RoundTrips.{ComesBack}
use Rattle.message.proofs.RoundTrips.{comes_back}
use Rattle.message.proofs.types.Message.write.Goals as goal

pub returns-clause-back : goal.returns-clause-back
returns-clause-back g c =
    let laws = g.met.V.Value in
    let m = c.args.self.now in
    let fits : all_within m ≡ Ok tt = search rules in
    subst (λ (s : List ℕ). ComesBack g.V.Value m s) (sym c.put.ensures) (comes_back g.V.Value laws.sized laws.reads laws.writes m _ fits)
