-- A message as a station takes it.
use Rattle.std.specs.Prelude.{◌≡◌, ℕ, ◌<◌, ◌≤◌, cond, Ok, Err, Result, nat_le}
use Rattle.message.specs.declared.types.Head.{Head}
use Rattle.message.specs.declared.types.Message.{Message}
use Rattle.message.specs.declared.types.Message.TheVariants as message
use Rattle.message.specs.declared.types.MessageFault.{MessageFault}
use Rattle.message.specs.declared.types.Reason.TheVariants as reason
use Rattle.message.specs.Format.{fault, head_of, next}
use Rattle.station.specs.declared.broadcast.Content.{Content}
use Rattle.station.specs.declared.broadcast.Content.TheVariants as content
use Rattle.station.specs.declared.broadcast.Broadcast.{Broadcast}

-- what a reader knows of the units of a head: the facts behind the answer head_within, for the sums that use them
pub record Ranges (h : Head) : Type 0 where
  pub sender : h.sender ≤ 31
  pub receiver : h.receiver ≤ 31
  pub round : h.round ≤ 60000
  pub low : 1 ≤ h.stamp
  pub stamp : h.stamp ≤ 6000000

-- the station that a unit at place i names, which has to be one of n
abbrev pub station_unit : ℕ → ℕ → ℕ → Result ℕ MessageFault
station_unit n i x = cond (nat_le n x) (Err (fault reason.Range i)) (Ok x)

module _ {V : Type 0} where
  abbrev pub content_for : ℕ → Message V → Result (Content V) MessageFault
  content_for n (message.First h o v) = next (station_unit n 20 o) (λ o. Ok (content.First o v))
  content_for n (message.Second h o v) = next (station_unit n 20 o) (λ o. Ok (content.Second o v))
  content_for n (message.Suspicion h) = Ok content.Suspicion
  content_for n (message.Decision h v) = Ok (content.Decision v)

  -- an origin is one of n stations
  abbrev pub Origin : ℕ → Content V → Type 0
  Origin n (content.First o v) = o < n
  Origin n (content.Second o v) = o < n
  Origin n content.Suspicion = Unit {0}
  Origin n (content.Decision v) = Unit {0}

  -- message m as one of n stations takes it: its units name stations
  pub record Known (n : ℕ) (m : Message V) (i : Broadcast V) : Type 0 where
    pub sender : (head_of m).sender < n
    pub receiver : (head_of m).receiver < n
    pub round : i.round ≡ (head_of m).round
    pub stamp : i.stamp ≡ (head_of m).stamp
    pub origin : Origin n i.content

  -- the message as one of n stations takes it, or the first unit that names no station
  abbrev pub incoming_for : ℕ → Message V → Result (Broadcast V) MessageFault
  incoming_for n m =
      next (station_unit n 4 (head_of m).sender) (λ _.
      next (station_unit n 8 (head_of m).receiver) (λ _.
      next (content_for n m) (λ c.
      Ok (record { round = (head_of m).round; stamp = (head_of m).stamp; content = c }))))
