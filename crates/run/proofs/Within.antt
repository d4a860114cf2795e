-- A message that was read is within its ranges.
use Rattle.std.proofs.Common.{◌≡◌, ℕ, ◌≤◌, ◌&&◌, leb, List, Ok, Err, Result, refl, sym, ap, ◌∙◌, subst, arith, leb-true}
use Rattle.std.proofs.lemmas.Bool.{and_parts}
use Rattle.value.specs.declared.Value.{Ghosts}
use Rattle.value.specs.declared.fault.ValueFault.{ValueFault}
use Rattle.message.specs.declared.types.Head.{Head}
use Rattle.message.specs.declared.types.Kind.{Kind}
use Rattle.message.specs.declared.types.Message.{Message}
use Rattle.message.specs.declared.types.Message.TheVariants as message
use Rattle.message.specs.Format.{headed, head_within, within, bodied, decoded, opened, head_of, next}
use Rattle.message.proofs.Ranges.{headed-within}
use Rattle.message.proofs.Taken.{bodied_by}
use Rattle.message.proofs.Trips.{before, tested}
use Rattle.table.specs.Messages.{reopened, understood}
use Rattle.run.specs.Incoming.{Ranges}

unit_range : (i low high n : ℕ) → within i low high n ≡ Ok tt → (low ≤ n) × (n ≤ high)
unit_range i low high n e =
    let t = tested (leb low n && leb n high) tt tt _ e in
    let both = and_parts _ _ t.0 in
    (leb-true _ _ both.0, leb-true _ _ both.1)

head_ranges : (h : Head) → head_within h ≡ Ok tt → Ranges h
head_ranges h e =
    let a = before (within 4 0 31 h.sender) _ tt e in
    let b = before (within 8 0 31 h.receiver) _ tt a.2 in
    let c = before (within 12 0 60000 h.round) _ tt b.2 in
    let d = unit_range 16 1 6000000 h.stamp c.2 in
    record {
      sender = (unit_range 4 0 31 h.sender a.1).1;
      receiver = (unit_range 8 0 31 h.receiver b.1).1;
      round = (unit_range 12 0 60000 h.round c.1).1;
      low = d.0;
      stamp = d.1;
    }

module _ {V : Type 0} (of : Ghosts V) where
  bodied-head : (k : Kind) (h : Head) (s : List ℕ) (m : Message (List ℕ)) → bodied of k h s ≡ Ok m → h ≡ head_of m
  bodied-head k h s = bodied_by of h s (λ k m. h ≡ head_of m) (λ o v r p. refl) (λ o v r p. refl) refl (λ v p. refl) k

  -- a value that was read, in what is made of it
  read_value : {X : Type 0} (h : Head) (r : Result V X) (f : V → Message V) (m : Message V) → ((v : V) → head_of (f v) ≡ h) → next r (λ v. Ok (f v)) ≡ Ok m → h ≡ head_of m
  read_value h (Ok v) f m k e = let same : f v ≡ m = cc in sym (k v) ∙ ap head_of same
  read_value h (Err d) f m k e = cc

  opened-head : (b : Message (List ℕ)) (m : Message V) → opened of b ≡ Ok m → head_of b ≡ head_of m
  opened-head (message.First h o s) m e = read_value h (of.parse s) (message.First h o) m (λ v. refl) e
  opened-head (message.Second h o s) m e = read_value h (of.parse s) (message.Second h o) m (λ v. refl) e
  opened-head (message.Suspicion h) m e = let same : message.Suspicion h ≡ m = cc in ap head_of same
  opened-head (message.Decision h s) m e = read_value h (of.parse s) (message.Decision h) m (λ v. refl) e

  reopened_ok : (r : Result (Message V) ValueFault) (m : Message V) → reopened r ≡ Ok m → r ≡ Ok m
  reopened_ok (Ok x) m e = let same : x ≡ m = cc in ap Ok same
  reopened_ok (Err f) m e = let k : ◌≡◌ {A = ℕ} 0 1 = cc in absurd (omega arith)

  -- a message that was understood is within its ranges
  pub understood_ranges : (s : List ℕ) (m : Message V) → understood of s ≡ Ok m → Ranges (head_of m)
  unfolding understood
  understood_ranges s m e =
      let b = before (decoded of s) _ m e in
      let h = before (headed s) _ b.0 b.1 in
      let same = bodied-head h.0.0 h.0.1 h.0.2 b.0 h.2 ∙ opened-head b.0 m (reopened_ok (opened of b.0) m b.2) in
      subst Ranges same (head_ranges h.0.1 (headed-within s h.0 h.1))
