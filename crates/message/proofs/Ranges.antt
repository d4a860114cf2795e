-- The units of a message that was read are within their ranges.
use Rattle.std.proofs.Common.{◌≡◌, ℕ, List, Ok, refl, ◌∙◌}
use Rattle.value.specs.declared.Value.{Ghosts}
use Rattle.message.specs.declared.types.Head.{Head}
use Rattle.message.specs.declared.types.Kind.{Kind}
use Rattle.message.specs.declared.types.Message.{Message}
use Rattle.message.specs.declared.types.Message.TheVariants as message
use Rattle.message.specs.Format.{all_within, bodied, decoded, head_within, headed, next, ranged, with_bytes, within}
use Rattle.message.proofs.Taken.{bodied_by, headed_by, ranged_parts}
use Rattle.message.proofs.Trips.{before, step}

pub headed-within : (s : List ℕ) (p : Kind × Head × List ℕ) → headed s ≡ Ok p → head_within p.1 ≡ Ok tt
headed-within s = headed_by s (λ q. head_within q.1 ≡ Ok tt) (λ k a b c d p e f g j.
    step _ (ranged_parts 4 0 31 k.1 a e).1 ∙ step _ (ranged_parts 8 0 31 a.1 b f).1 ∙ step _ (ranged_parts 12 0 60000 b.1 c g).1 ∙ (ranged_parts 16 1 6000000 c.1 d j).1)

module _ {V : Type 0} (of : Ghosts V) where
  bodied-within : (k : Kind) (h : Head) (t : List ℕ) (b : Message (List ℕ)) → head_within h ≡ Ok tt → bodied of k h t ≡ Ok b → all_within b ≡ Ok tt
  bodied-within k h t b w =
      let estimate : (o : ℕ × List ℕ) (v : List ℕ) → ranged 20 0 31 t ≡ Ok o → next (head_within h) (λ _. within 20 0 31 o.0) ≡ Ok tt = λ o v r. step _ w ∙ (ranged_parts 20 0 31 t o r).1 in
      bodied_by of h t (λ _ q. all_within q ≡ Ok tt) (λ o v r _. estimate o v r) (λ o v r _. estimate o v r) w (λ _ _. w) k b

  pub decoded-within : (s : List ℕ) (b : Message (List ℕ)) → decoded of s ≡ Ok b → all_within b ≡ Ok tt
  decoded-within s b e =
      let h = before (headed s) _ b e in
      bodied-within h.0.0 h.0.1 h.0.2 b (headed-within s h.0 h.1) h.2

  -- the bytes of the value do not count
  pub within_bytes : (m : Message V) → all_within (with_bytes of.code m) ≡ all_within m
  within_bytes (message.First h o v) = refl
  within_bytes (message.Second h o v) = refl
  within_bytes (message.Suspicion h) = refl
  within_bytes (message.Decision h v) = refl
