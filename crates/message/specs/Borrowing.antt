-- The part of the caller's bytes that a message which was read has as its value.
use Rattle.std.specs.Prelude.{◌≡◌, ℕ, ◌+◌, List, take, drop}
use Rattle.std.specs.Borrow.{Bor}
use Rattle.message.specs.declared.types.Message.{Message}
use Rattle.message.specs.declared.types.Message.TheVariants as message

-- r begins i bytes behind where s begins, in the same memory
abbrev pub Begins : ℕ → Bor (List ℕ) → Bor (List ℕ) → Type 0
Begins i s r = (r.ref_ptr.0 ≡ s.ref_ptr.0) × (r.ref_ptr.1 ≡ i + s.ref_ptr.1)

-- r is what is left of s behind its first i bytes
abbrev pub Rest : ℕ → Bor (List ℕ) → Bor (List ℕ) → Type 0
Rest i s r = Begins i s r × (r.now ≡ drop i s.now)

-- r is that part of s which begins at place i and has n bytes
abbrev pub Part : ℕ → ℕ → Bor (List ℕ) → Bor (List ℕ) → Type 0
Part i n s r = Begins i s r × (r.now ≡ take n (drop i s.now))

-- the value of a message, of n bytes, is that part of s which follows the units before it; i is the place where the head ends
abbrev pub Borrows : ℕ → ℕ → Bor (List ℕ) → Message (Bor (List ℕ)) → Type 0
Borrows i n s (message.First h o r) = Part (i + 4) n s r
Borrows i n s (message.Second h o r) = Part (i + 4) n s r
Borrows i n s (message.Suspicion h) = Unit {0}
Borrows i n s (message.Decision h r) = Part i n s r
