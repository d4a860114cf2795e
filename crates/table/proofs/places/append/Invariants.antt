use Rattle.std.proofs.Common.{◌≡◌, ◌*◌}
use Rattle.table.specs.Places.{put, messages}
use Rattle.table.specs.Messages.{addressed, size, written}
use Rattle.table.proofs.places.append.Given as goal

abbrev pub invariant-loop-j : goal.invariant-loop-j
invariant-loop-j g l = l.bytes ≡ put l.initial.bytes (l.waiting * size g.V.Value) (messages (λ j. written g.V.Value (addressed l.sender l.b j)) l.j)
