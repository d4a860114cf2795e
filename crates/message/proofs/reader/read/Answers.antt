use Rattle.std.proofs.Common.{◌≡◌, rules}
use Rattle.message.specs.Format.{decoded, seen_message}
use Rattle.message.proofs.Borrows.{read_borrows}
use Rattle.message.proofs.RoundTrips.{read_goes_back}
use Rattle.message.proofs.reader.read.Goals as goal

pub returns-clause-part : goal.returns-clause-part
returns-clause-part g c = read_borrows 20 g.V.Value.WIDTH c.args.bytes c.in_ok-kind.rest c.take_body.result c.in_ok-kind.ensures.rest c.take_body.ensures.part

pub returns-clause-back : goal.returns-clause-back
returns-clause-back g c =
    let laws = g.met.V.Value in
    let answer : seen_message c.take_body.result ≡ decoded g.V.Value c.args.bytes.now = search rules in
    read_goes_back g.V.Value laws.sized laws.reads laws.writes c.args.bytes.now c.take_body.result (λ i. (c.type_inv.bytes i).fits) answer
