use Rattle.std.proofs.Common.{sym, arith}
use Rattle.run.proofs.Members.{member_from_sound}
use Rattle.run.proofs.running.Running.named.Goals as goal

pub returns-clause-member : goal.returns-clause-member
returns-clause-member g c =
    let run = c.args.self.now in
    member_from_sound run.n run.places c.args.i c.in_ok-station.station run.sized (omega (arith, c.in_ok-check.ensures.fit.stations, c.in_ok-station.ensures.below)) (sym c.if-not-fits.ensures.value)
