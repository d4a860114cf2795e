-- What a place holds after a message was written there.
use Rattle.std.proofs.Common.{◌≡◌, ℕ, ◌+◌, ◌≤◌, false, cond, ltb, List, ◌++◌, length, drop, replicate, is_ok, Ok, Err, Result, ap, ◌∙◌, arith, le-ltb}
use Rattle.std.proofs.lemmas.List.{drop-replicate, length-append, length-replicate}
use Rattle.value.specs.declared.Value.{Ghosts}
use Rattle.message.specs.declared.types.Message.{Message}
use Rattle.message.specs.declared.types.Message.TheVariants as message
use Rattle.message.specs.declared.types.MessageFault.{MessageFault}
use Rattle.message.specs.declared.types.Reason.TheVariants as reason
use Rattle.message.specs.Format.{admits, all_within, encoded, fault, put, size_of}
use Rattle.message.proofs.RoundTrips.{length-encoded}
use Rattle.table.specs.Messages.{size, written}

module _ {V : Type 0} (of : Ghosts V) where
  pub size-within : (m : Message V) → size_of of m ≤ size of
  size-within (message.First h o v) = omega arith
  size-within (message.Second h o v) = omega arith
  size-within (message.Suspicion h) = omega arith
  size-within (message.Decision h v) = omega arith

  pub written_is : (s : List ℕ) (m : Message V) (r : Result (Unit {0}) MessageFault) → s ≡ replicate (size of) 0 → r ≡ admits of (length s) m → all_within m ≡ Ok tt → cond (is_ok r) (put 0 (encoded of m) s) s ≡ written of m
  unfolding written
  written_is s m r z a w =
      let code = encoded of m in
      let long : length s ≡ size of = ap length z ∙ length-replicate (size of) 0 in
      let t : ltb (length s) (size_of of m) ≡ false = le-ltb _ _ (omega (arith, size-within m)) in
      let e : r ≡ Ok tt = a ∙ ap (λ b. cond b (Err (fault reason.Short 0)) (all_within m)) t ∙ w in
      let n : 0 + length code ≡ length code = omega arith in
      ap (λ q. cond (is_ok q) (put 0 code s) s) e
      ∙ ap (λ k. code ++ drop k s) n
      ∙ ap (λ xs. code ++ drop (length code) xs) z
      ∙ ap (λ ys. code ++ ys) (drop-replicate (length code) (size of) 0)

  module _ (sized : (v : V) → length (of.code v) ≡ of.WIDTH) where
    pub length-written : (m : Message V) → length (written of m) ≡ size of
    unfolding written
    length-written m =
        let l = length-encoded of sized m in
        let w = size-within m in
        simp (length-append, length-replicate) (omega arith)
