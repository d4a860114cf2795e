-- A message comes back as itself from its bytes, and bytes come back from the message that they read as.
use Rattle.std.proofs.Common.{◌≡◌, ℕ, List, ◌++◌, length, take, IfOk, Ok, Err, Result, refl, sym, ap, ◌∙◌, arith, Bor}
use Rattle.value.specs.declared.Value.{Ghosts}
use Rattle.value.specs.Xdr.{Bytes}
use Rattle.message.specs.declared.types.Message.{Message}
use Rattle.message.specs.declared.types.Message.TheVariants as message
use Rattle.message.specs.declared.types.MessageFault.{MessageFault}
use Rattle.message.specs.Format.{all_within, decoded, encoded, flat, seen_message, seen_value, size_of}
use Rattle.message.specs.RoundTrips.{ComesBack, GoesBack}
use Rattle.message.proofs.Backs.{writes_back}
use Rattle.message.proofs.Opens.{opens, opens_again}
use Rattle.message.proofs.Ranges.{decoded-within, within_bytes}
use Rattle.message.proofs.Trips.{reads_back}

module _ {V : Type 0} (of : Ghosts V) (sized : (v : V) → length (of.code v) ≡ of.WIDTH) where
  pub length-encoded : (m : Message V) → length (encoded of m) ≡ size_of of m
  length-encoded (message.First h o v) = omega (arith, sized v)
  length-encoded (message.Second h o v) = omega (arith, sized v)
  length-encoded (message.Suspicion h) = refl
  length-encoded (message.Decision h v) = omega (arith, sized v)

module _ {V : Type 0} (of : Ghosts V) (sized : (v : V) → length (of.code v) ≡ of.WIDTH) (reads : (v : V) → (w : V) × (of.parse (of.code v) ≡ Ok w) × (of.code w ≡ of.code v)) (writes : (b : List ℕ) (v : V) → Bytes b → of.parse b ≡ Ok v → of.code v ≡ b) where
  pub comes_back : (m : Message V) (t : List ℕ) → all_within m ≡ Ok tt → ComesBack of m (encoded of m ++ t)
  comes_back m t w = (reads_back of sized reads m t w, opens_again of reads writes m)

  goes_back : (s : List ℕ) (b : Message (List ℕ)) → Bytes s → decoded of s ≡ Ok b → GoesBack of s b
  goes_back s b bs e =
      let o = opens of reads writes s b bs e in
      let code : encoded of o.0 ≡ flat b = ap flat o.2 in
      let long : size_of of o.0 ≡ length (flat b) = sym (length-encoded of sized o.0) ∙ ap length code in
      let range : all_within o.0 ≡ Ok tt = sym (within_bytes of o.0) ∙ ap all_within o.2 ∙ decoded-within of s b e in
      (o.0, o.1, range, ap (λ n. take n s) long ∙ writes_back of s b bs e ∙ sym code)

  pub read_goes_back : (s : List ℕ) (r : Result (Message (Bor (List ℕ))) MessageFault) → Bytes s → seen_message r ≡ decoded of s → IfOk r (λ m. GoesBack of s (seen_value m))
  read_goes_back s (Ok m) bs e = goes_back s (seen_value m) bs (sym e)
  read_goes_back s (Err d) bs e = tt
