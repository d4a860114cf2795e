-- A message goes to bytes and comes back as itself; bytes that are read are the only ones for their message.
use Rattle.std.specs.Prelude.{◌≡◌, ℕ, List, take, Ok}
use Rattle.value.specs.declared.Value.{Ghosts}
use Rattle.message.specs.declared.types.Message.{Message}
use Rattle.message.specs.Format.{all_within, decoded, encoded, opened, size_of, with_bytes}

module _ {V : Type 0} (of : Ghosts V) where
  -- two messages are the same: of one kind, with the same units, and values of equal bytes
  abbrev pub Same : Message V → Message V → Type 0
  Same m q = with_bytes of.code m ≡ with_bytes of.code q

  -- the bytes s read as the message m, and what they open to is the same as m
  abbrev pub ComesBack : Message V → List ℕ → Type 0
  ComesBack m s = (decoded of s ≡ Ok (with_bytes of.code m)) × ((q : Message V) × (opened of (with_bytes of.code m) ≡ Ok q) × Same q m)

  -- b, which was read from s, opens to a message that is in range and is written as the very bytes that s begins with
  abbrev pub GoesBack : List ℕ → Message (List ℕ) → Type 0
  GoesBack s b = (m : Message V) × (opened of b ≡ Ok m) × (all_within m ≡ Ok tt) × (take (size_of of m) s ≡ encoded of m)
