use Rattle.std.proofs.Common.{◌+◌, ◌*◌, ◌≤◌, length, subst, mul-le-mul_right, arith}
use Rattle.run.specs.Posting.{Postable}
use Rattle.run.specs.Numbers.{numbers}
use Rattle.table.specs.Messages.{size}
use Rattle.run.proofs.running.Running.post.Goals as goal

pub append-requires : goal.append-requires
append-requires g c =
    let run = c.args.self.now in
    let h = subst (Postable g.V.Value (numbers run) (length c.args.bytes.now) c.args.sender) c.in-Some.is c.requires in
    let m : (c.from.result + run.n) * size g.V.Value ≤ run.places * size g.V.Value = mul-le-mul_right (size g.V.Value) (omega (arith, h.0)) in
    (omega (arith, m, h.1), h.3)
