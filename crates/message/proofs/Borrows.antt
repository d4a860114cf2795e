-- Parts of the caller's bytes, one behind another.
use Rattle.std.proofs.Common.{◌≡◌, ℕ, ◌+◌, List, take, drop, IfOk, Ok, Err, Result, ap, ◌∙◌, arith, Bor}
use Rattle.std.proofs.lemmas.List.{drop-drop}
use Rattle.message.specs.declared.types.Message.{Message}
use Rattle.message.specs.declared.types.Message.TheVariants as message
use Rattle.message.specs.declared.types.MessageFault.{MessageFault}
use Rattle.message.specs.Borrowing.{Begins, Borrows, Part, Rest}

module _ (i j k : ℕ) (s t r : Bor (List ℕ)) (sum : j + i ≡ k) (rest : Rest i s t) where
  begins_behind : Begins j t r → Begins k s r
  begins_behind b = (b.0 ∙ rest.0.0, omega (arith, b.1, rest.0.1))

  dropped : drop j t.now ≡ drop k s.now
  dropped =
      let e : i + j ≡ k = omega arith in
      ap (drop j) rest.1 ∙ drop-drop j i s.now ∙ ap (λ x. drop x s.now) e

  pub rest_behind : Rest j t r → Rest k s r
  rest_behind p = (begins_behind p.0, p.1 ∙ dropped)

  pub part_behind : (n : ℕ) → Part j n t r → Part k n s r
  part_behind n p = (begins_behind p.0, p.1 ∙ ap (take n) dropped)

-- a value that follows what is left of s behind the head
borrows_behind : (i n : ℕ) (s t : Bor (List ℕ)) (m : Message (Bor (List ℕ))) → Rest i s t → Borrows 0 n t m → Borrows i n s m
borrows_behind i n s t (message.First h o r) rest p = part_behind i 4 (i + 4) s t r (omega arith) rest n p
borrows_behind i n s t (message.Second h o r) rest p = part_behind i 4 (i + 4) s t r (omega arith) rest n p
borrows_behind i n s t (message.Suspicion h) rest p = tt
borrows_behind i n s t (message.Decision h r) rest p = part_behind i 0 i s t r (omega arith) rest n p

pub read_borrows : (i n : ℕ) (s t : Bor (List ℕ)) (r : Result (Message (Bor (List ℕ))) MessageFault) → Rest i s t → IfOk r (λ m. Borrows 0 n t m) → IfOk r (λ m. Borrows i n s m)
read_borrows i n s t (Ok m) rest p = borrows_behind i n s t m rest p
read_borrows i n s t (Err e) rest p = tt
