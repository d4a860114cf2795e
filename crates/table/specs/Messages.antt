-- Messages in the places of the table of bytes.
use Rattle.std.specs.Prelude.{ℕ, ◌+◌, ◌-◌, ◌*◌, List, ◌++◌, length, replicate, Ok, Err, Result}
use Rattle.value.specs.declared.Value.{Ghosts}
use Rattle.value.specs.declared.fault.ValueFault.{ValueFault}
use Rattle.message.specs.declared.types.Head.{Head}
use Rattle.message.specs.declared.types.Message.{Message}
use Rattle.message.specs.declared.types.Message.TheVariants as message
use Rattle.message.specs.declared.types.MessageFault.{MessageFault}
use Rattle.message.specs.declared.types.Reason.TheVariants as reason
use Rattle.message.specs.Format.{decoded, encoded, fault, next, opened}
use Rattle.station.specs.declared.broadcast.Content.{Content}
use Rattle.station.specs.declared.broadcast.Content.TheVariants as content
use Rattle.station.specs.declared.broadcast.Broadcast.{Broadcast}
use Rattle.table.specs.Places.{messages, put}

module _ {V : Type 0} where
  abbrev pub head_from : ℕ → ℕ → Broadcast V → Head
  head_from i j b = record { sender = i; receiver = j; round = b.round; stamp = b.stamp }

  abbrev pub message_with : Head → Content V → Message V
  message_with h (content.First o v) = message.First h o v
  message_with h (content.Second o v) = message.Second h o v
  message_with h content.Suspicion = message.Suspicion h
  message_with h (content.Decision v) = message.Decision h v

  -- the message of a broadcast from station i to station j
  abbrev pub addressed : ℕ → Broadcast V → ℕ → Message V
  addressed i b j = message_with (head_from i j b) b.content

module _ {V : Type 0} (of : Ghosts V) where
  -- the size of a place
  abbrev pub size : ℕ
  size = 24 + of.WIDTH

  -- a place with a message: its bytes, and zeros
  unfoldable pub written : Message V → List ℕ
  written m = encoded of m ++ replicate (size - length (encoded of m)) 0

  -- the table with the messages of a broadcast from station i to each of n behind the waiting ones
  unfoldable pub appended : List ℕ → ℕ → ℕ → ℕ → Broadcast V → List ℕ
  appended bytes waiting n i b = put bytes (waiting * size) (messages (λ j. written (addressed i b j)) n)

module _ {V : Type 0} where
  -- (a value that was read in its message reads again)
  abbrev pub reopened : Result (Message V) ValueFault → Result (Message V) MessageFault
  reopened (Ok m) = Ok m
  reopened (Err f) = Err (fault (reason.Value f) 0)

  -- the message that a list of bytes begins with
  unfoldable pub understood : Ghosts V → List ℕ → Result (Message V) MessageFault
  understood of s = next (decoded of s) (λ b. reopened (opened of b))
