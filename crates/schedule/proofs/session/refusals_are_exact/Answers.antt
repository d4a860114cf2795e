use Rattle.schedule.proofs.Refused.{exact}
use Rattle.schedule.proofs.session.refusals_are_exact.Goals as goal

pub returns : goal.returns
returns c = exact
