-- What a write to a part of the table leaves.
use Rattle.std.proofs.Common.{◌≡◌, ℕ, zero, suc, ◌+◌, ◌-◌, ◌*◌, ◌≤◌, List, ◌++◌, length, replicate, append_assoc, take, drop, sym, refl, ap, ◌∙◌, add-one, arith, length-drop, length-take}
use lib.Seq.{paste}
use borrow.Rule.Slice.PartMut.{put_mid}
use Rattle.std.specs.List.{copy_within}
use Rattle.std.proofs.lemmas.Slice.{put_mid-paste}
use Rattle.std.proofs.lemmas.List.Edits.{paste_all, paste-paste}
use Rattle.std.proofs.lemmas.List.{length-append, length-replicate}
use Rattle.table.specs.Places.{put, place, messages}
use Rattle.table.proofs.Rows.{part_length}

pub putMid_put : (a k : ℕ) (xs ys zs : List ℕ) → ys ≡ zs → k ≡ length zs → put_mid a k xs ys ≡ put xs a zs
putMid_put a k xs ys zs e l = put_mid-paste a k xs ys zs (length zs) e (sym l) refl ∙ paste_all xs a zs (length zs) refl

module _ (xs ys : List ℕ) (a size v : ℕ) (fits : a + size ≤ length xs) (e : ys ≡ replicate (length (take (a + size - a) (drop a xs))) v) where
  -- a part that was filled
  pub filled : ys ≡ replicate size v
  filled = e ∙ ap (λ k. replicate k v) (simp (part_length, length-take, length-drop) (omega arith))

  pub filled_put : put_mid a (a + size - a) xs ys ≡ put xs a (replicate size v)
  filled_put = putMid_put a (a + size - a) xs ys (replicate size v) filled (simp length-replicate (omega arith))

-- a part that is copied within the table
pub copied : (d : List ℕ) (from to size : ℕ) → from + size ≤ length d → copy_within d from (from + size) to ≡ put d to (place d from size)
copied d from to size fits =
    let l : length (place d from size) ≡ size = simp (length-take, length-drop) (omega arith) in
    simp (part_length, l, append_assoc)

put_paste : (d : List ℕ) (a : ℕ) (s : List ℕ) → put d a s ≡ paste d a s (length s)
put_paste d a s = sym (paste_all d a s (length s) refl)

-- one write behind another
pub put-put : (d : List ℕ) (a b : ℕ) (s t : List ℕ) → a ≤ length d → b ≡ a + length s → put (put d a s) b t ≡ put d a (s ++ t)
put-put d a b s t h e =
    ap (λ k. put (put d a s) k t) e
    ∙ ap (λ xs. put xs (a + length s) t) (put_paste d a s)
    ∙ put_paste (paste d a s (length s)) (a + length s) t
    ∙ paste-paste d a s t (length s) (length t) refl refl h
    ∙ paste_all d a (s ++ t) (length s + length t) (sym (length-append s t))
    ∙ ap (λ k. take a d ++ ((s ++ t) ++ drop (a + k) d)) (sym (length-append s t))

pub length-messages : (f : ℕ → List ℕ) (size n : ℕ) → ((i : ℕ) → length (f i) ≡ size) → length (messages f n) ≡ n * size
length-messages f size zero e = omega arith
length-messages f size (suc n) e = simp length-append (omega (arith, length-messages f size n e, e n))

pub messages_more : (f : ℕ → List ℕ) (n : ℕ) → messages f (n + 1) ≡ messages f n ++ f n
messages_more f n = ap (messages f) (add-one n)

-- one message more behind the j that stand from place w on
pub put_message : (d : List ℕ) (f : ℕ → List ℕ) (size w j : ℕ) → ((i : ℕ) → length (f i) ≡ size) → w * size ≤ length d → put (put d (w * size) (messages f j)) ((w + j) * size) (f j) ≡ put d (w * size) (messages f (j + 1))
put_message d f size w j e h =
    let at : (w + j) * size ≡ w * size + length (messages f j) = omega (arith, length-messages f size j e) in
    put-put d (w * size) ((w + j) * size) (messages f j) (f j) h at ∙ ap (put d (w * size)) (sym (messages_more f j))
