use Rattle.std.proofs.Common.{◌≢◌, ◌∙◌, arith, get_or-set_other, get_or-set_same, below_more}
use Rattle.run.specs.Records.{blank}
use Rattle.run.proofs.gather.reset.Goals as goal

pub loop-i-preserved : goal.loop-i-preserved
loop-i-preserved g c =
    let xs = c.loop-i.stations in
    let i = c.loop-i.i in
    let s = c.new.result in
    below_more _ _
    (λ k h. let ne : k ≢ i = omega arith in get_or-set_other xs i k s blank ne ∙ c.loop-i.invariant k h)
    (get_or-set_same xs i s blank (omega arith) ∙ c.new.ensures)
