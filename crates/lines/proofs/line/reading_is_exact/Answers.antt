use Rattle.lines.proofs.Readings.{exact}
use Rattle.lines.proofs.line.reading_is_exact.Goals as goal

pub returns : goal.returns
returns c = exact
