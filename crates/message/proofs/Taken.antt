-- What a message that was read is made of.
use Rattle.std.proofs.Common.{◌≡◌, ℕ, ◌≤◌, ltb, List, length, take, drop, Ok, Err, Result, refl, ltb-false}
use Rattle.std.proofs.lemmas.Bool.Decides.{nat_tests}
use Rattle.std.proofs.Common.{arith, subst, leb, ◌&&◌}
use Rattle.value.specs.Passed.{spared}
use Rattle.value.specs.Xdr.{unit_at}
use Rattle.value.specs.declared.Value.{Ghosts}
use Rattle.value.specs.declared.fault.ValueFault.{ValueFault}
use Rattle.message.specs.declared.types.Head.{Head}
use Rattle.message.specs.declared.types.Kind.{Kind}
use Rattle.message.specs.declared.types.Kind.TheVariants as kind
use Rattle.message.specs.declared.types.Message.{Message}
use Rattle.message.specs.declared.types.Message.TheVariants as message
use Rattle.message.specs.Format.{bodied, headed, judgement, kind_number, kind_of_number, kinded, placed, ranged, united, valued, within}
use Rattle.message.proofs.Trips.{before, tested}

-- a unit off the front of enough bytes
pub united_parts : (i : ℕ) (s : List ℕ) (p : ℕ × List ℕ) → united i s ≡ Ok p → (4 ≤ length s) × ((unit_at s 0, drop 4 s) ≡ p)
united_parts i s p e = let r = spared (ltb (length s) 4) (Ok (unit_at s 0, drop 4 s)) _ p e in (ltb-false _ _ r.0, cc)

-- a unit with a range, which it keeps
pub ranged_parts : (i low high : ℕ) (s : List ℕ) (p : ℕ × List ℕ) → ranged i low high s ≡ Ok p → (united i s ≡ Ok p) × (within i low high p.0 ≡ Ok tt)
ranged_parts i low high s p e =
    let a = before (united i s) _ p e in
    let t = tested (leb low a.0.0 && leb a.0.0 high) a.0 p _ a.2 in
    subst (λ (q : ℕ × List ℕ). (united i s ≡ Ok q) × (within i low high q.0 ≡ Ok tt)) t.1 (a.1, rw t.0)

pub kind_parts : (n : ℕ) (k : Kind) → kind_of_number n ≡ Ok k → n ≡ kind_number k
kind_parts n k e = grind (arith, nat_tests)

-- what holds of the five units, each read behind the one before
pub headed_by : (s : List ℕ) (P : Kind × Head × List ℕ → Type 0) →
    ((k : Kind × List ℕ) (a b c d : ℕ × List ℕ) → kinded s ≡ Ok k → ranged 4 0 31 k.1 ≡ Ok a → ranged 8 0 31 a.1 ≡ Ok b → ranged 12 0 60000 b.1 ≡ Ok c → ranged 16 1 6000000 c.1 ≡ Ok d → P (k.0, record { sender = a.0; receiver = b.0; round = c.0; stamp = d.0 }, d.1))
    → (p : Kind × Head × List ℕ) → headed s ≡ Ok p → P p
headed_by s P units p e =
    let k = before (kinded s) _ p e in
    let a = before (ranged 4 0 31 k.0.1) _ p k.2 in
    let b = before (ranged 8 0 31 a.0.1) _ p a.2 in
    let c = before (ranged 12 0 60000 b.0.1) _ p b.2 in
    let d = before (ranged 16 1 6000000 c.0.1) _ p c.2 in
    let h : Head = record { sender = a.0.0; receiver = b.0.0; round = c.0.0; stamp = d.0.0 } in
    let got : Kind × Head × List ℕ = (k.0.0, h, d.0.1) in
    let same : got ≡ p = cc in
    subst P same (units k.0 a.0 b.0 c.0 d.0 k.1 a.1 b.1 c.1 d.1)

module _ {V : Type 0} (of : Ghosts V) where
  judged_parts : (i : ℕ) (s v : List ℕ) (r : Result V ValueFault) → placed i s (judgement r) ≡ Ok v → (s ≡ v) × ((w : V) × (r ≡ Ok w))
  judged_parts i s v (Ok w) e = (cc, (w, refl))
  judged_parts i s v (Err d) e = cc

  -- the bytes of a value, off the front of enough bytes
  pub valued_parts : (i : ℕ) (s v : List ℕ) → valued of i s ≡ Ok v → (of.WIDTH ≤ length s) × (take of.WIDTH s ≡ v) × ((w : V) × (of.parse v ≡ Ok w))
  valued_parts i s v e =
      let r = spared (ltb (length s) of.WIDTH) (placed i (take of.WIDTH s) (judgement (of.parse (take of.WIDTH s)))) _ v e in
      let j = judged_parts i (take of.WIDTH s) v (of.parse (take of.WIDTH s)) r.1 in
      (ltb-false _ _ r.0, j.0, (j.1.0, subst (λ (x : List ℕ). of.parse x ≡ Ok j.1.0) j.0 j.1.1))

  -- what holds of each kind of message, of what was read behind its head
  module _ (h : Head) (t : List ℕ) (P : Kind → Message (List ℕ) → Type 0)
      (first : (o : ℕ × List ℕ) (v : List ℕ) → ranged 20 0 31 t ≡ Ok o → valued of 24 o.1 ≡ Ok v → P kind.First (message.First h o.0 v))
      (second : (o : ℕ × List ℕ) (v : List ℕ) → ranged 20 0 31 t ≡ Ok o → valued of 24 o.1 ≡ Ok v → P kind.Second (message.Second h o.0 v))
      (suspicion : P kind.Suspicion (message.Suspicion h))
      (decision : (v : List ℕ) → valued of 20 t ≡ Ok v → P kind.Decision (message.Decision h v)) where
    pub bodied_by : (k : Kind) (m : Message (List ℕ)) → bodied of k h t ≡ Ok m → P k m
    bodied_by kind.First m r =
        let o = before (ranged 20 0 31 t) _ m r in
        let v = before (valued of 24 o.0.1) _ m o.2 in
        let same : message.First h o.0.0 v.0 ≡ m = cc in
        subst (P kind.First) same (first o.0 v.0 o.1 v.1)
    bodied_by kind.Second m r =
        let o = before (ranged 20 0 31 t) _ m r in
        let v = before (valued of 24 o.0.1) _ m o.2 in
        let same : message.Second h o.0.0 v.0 ≡ m = cc in
        subst (P kind.Second) same (second o.0 v.0 o.1 v.1)
    bodied_by kind.Suspicion m r = let same : message.Suspicion h ≡ m = cc in subst (P kind.Suspicion) same suspicion
    bodied_by kind.Decision m r =
        let v = before (valued of 20 t) _ m r in
        let same : message.Decision h v.0 ≡ m = cc in
        subst (P kind.Decision) same (decision v.0 v.1)
