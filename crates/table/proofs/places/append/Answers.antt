use Rattle.std.proofs.Common.{ℕ, ◌+◌, ◌*◌, ◌≤◌, List, mul-le-mul_right, arith}
use Rattle.table.proofs.Puts.{put_message}
use Rattle.table.specs.Messages.{addressed, size, written}
use Rattle.table.proofs.Writes.{length-written}
use Rattle.table.proofs.places.append.Goals as goal

pub loop-j-preserved : goal.loop-j-preserved
loop-j-preserved g c =
    let s = size g.V.Value in
    let room : c.args.waiting * s ≤ (c.args.waiting + c.args.n) * s = mul-le-mul_right s (omega arith) in
    let f : ℕ → List ℕ = λ i. written g.V.Value (addressed c.args.sender c.args.b.now i) in
    let more = put_message c.args.bytes.now f s c.args.waiting c.loop-j.j (λ i. length-written g.V.Value g.met.V.Value.sized (addressed c.args.sender c.args.b.now i)) (omega (arith, room, c.requires.0)) in
    cc
