use Rattle.std.proofs.Common.{rules}
use Rattle.schedule.proofs.Openings.{blank_new}
use Rattle.schedule.proofs.desk.Desk.new.Goals as goal

pub returns-clause-bytes : goal.returns-clause-bytes
returns-clause-bytes c = blank_new _ _ (c.in_ok-vec-2.ensures.items_if_clones_equal (search rules))
