-- The reference points, as one table over the definitions that the contracts cite.
use Rattle.std.specs.Prelude.{◌≡◌, ℕ, List, [], ◌∷◌, ◌++◌, take, ℤ, negsuc, Ok, Err}
use Rattle.std.specs.Int.{w32}
use Rattle.std.proofs.Common.{of_z}
use Rattle.value.specs.Numbers as value-numbers
use Rattle.value.specs.Xdr.{unit}
use Rattle.value.specs.contracts.kinds.GradedMapValue.TheImpl as graded-map
use Rattle.message.specs.declared.types.Head.{Head}
use Rattle.message.specs.declared.types.Message.{Message}
use Rattle.message.specs.declared.types.Message.TheVariants as message
use Rattle.message.specs.declared.types.Reason.{Reason}
use Rattle.message.specs.declared.types.Reason.TheVariants as reason
use Rattle.message.specs.Format.{cause_of, decoded, fault, flat, number_of}

-- from station 1 to station 0
abbrev head : ℕ → ℕ → Head
head round stamp = record { sender = 1; receiver = 0; round = round; stamp = stamp }

abbrev suspicion : ℕ → ℕ → Message (List ℕ)
suspicion round stamp = message.Suspicion (head round stamp)

-- a first estimate of map 7 with this grade, its back meant
abbrev estimate : ℤ → Message (List ℕ)
estimate grade = message.First (head 2 5) 1 (unit 7 ++ (unit (of_z w32 grade) ++ unit 1))

-- a message of graded maps reads from its bytes
abbrev Reads : Message (List ℕ) → Type 0
Reads m = decoded graded-map.ghosts (flat m) ≡ Ok m

-- bytes are refused for this reason, whose cause has this number, at this place
abbrev Refused : List ℕ → Reason → ℕ → ℕ → Type 0
Refused s why cause place = (decoded graded-map.ghosts s ≡ Err (fault why place)) × (number_of (cause_of why) ≡ cause)

-- 00000003 00000001 00000000 00000002 00000005 in hexadecimal
abbrev pub suspicion_bytes : List ℕ
suspicion_bytes = 0 ∷ 0 ∷ 0 ∷ 3 ∷ 0 ∷ 0 ∷ 0 ∷ 1 ∷ 0 ∷ 0 ∷ 0 ∷ 0 ∷ 0 ∷ 0 ∷ 0 ∷ 2 ∷ 0 ∷ 0 ∷ 0 ∷ 5 ∷ []

pub record Points : Type 0 where
  -- the last round reads, the one after it is out of range at byte 12
  pub last_round : Reads (suspicion 60000 5)
  pub past_round : Refused (flat (suspicion 60001 5)) reason.Range 3 12
  -- the last stamp reads, the one after it is out of range at byte 16
  pub last_stamp : Reads (suspicion 2 6000000)
  pub past_stamp : Refused (flat (suspicion 2 6000001)) reason.Range 3 16
  -- of 19 bytes of a suspicion, the stamp is missing
  pub short : Refused (take 19 (flat (suspicion 2 5))) reason.Short 1 16
  -- the lowest grade reads, the one below it is refused by the kind of value with its cause 1
  pub low_grade : Reads (estimate (negsuc 999))
  pub below_grade : Refused (flat (estimate (negsuc 1000))) (reason.Value (value-numbers.fault 1)) 4 24
  pub bytes : flat (suspicion 2 5) ≡ suspicion_bytes
