use Rattle.std.proofs.Common.{refl}
use Rattle.message.proofs.Borrows.{rest_behind}
use Rattle.message.proofs.reader.take_head.Goals as goal

pub returns-clause-rest : goal.returns-clause-rest
returns-clause-rest c =
    let whole = c.args.bytes in
    let sender = c.in_ok-sender.bytes in
    let receiver = c.in_ok-receiver.bytes in
    let round = c.in_ok-round.bytes in
    let two = rest_behind 4 4 8 whole c.in_ok-kind.bytes sender refl c.in_ok-kind.ensures.rest c.in_ok-sender.ensures.rest in
    let three = rest_behind 8 4 12 whole sender receiver refl two c.in_ok-receiver.ensures.rest in
    let four = rest_behind 12 4 16 whole receiver round refl three c.in_ok-round.ensures.rest in
    rest_behind 16 4 20 whole round c.in_ok-stamp.bytes refl four c.in_ok-stamp.ensures.rest
