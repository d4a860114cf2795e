-- What is known of each record where all passed a test.
use Rattle.std.proofs.Common.{◌≡◌, ℕ, zero, suc, ◌+◌, ◌<◌, true, List, [], ◌∷◌, length, is_some, refl, ap, ◌∙◌, subst, arith}
use Rattle.std.proofs.lemmas.List.Elements.{All-get_or}
use Rattle.std.proofs.lemmas.List.FromFn.{get_or-enumerate_from, length-enumerate_from}
use Rattle.std.proofs.lemmas.List.Sums.{AllPass-from_list_all}
use Rattle.std.specs.List.{enumerate_from, range_with_len, zip}
use Rattle.station.specs.Rule.{formed}
use Rattle.station.specs.declared.state.Station.{Station}
use Rattle.run.specs.Gather.{all_formed, all_proposed}
use Rattle.run.specs.Records.{blank, station_at}

-- a list beside the numbers from i on, of which there are as many
pub numbered : {X : Type 0} (i : ℕ) (xs : List X) (n : ℕ) → length xs ≡ n → zip (range_with_len i n) xs ≡ enumerate_from i xs
numbered i [] zero l = refl
numbered i [] (suc n) l = absurd (omega arith)
numbered i (x ∷ xs) zero l = absurd (omega arith)
numbered i (x ∷ xs) (suc n) l = ap (λ ys. (i, x) ∷ ys) (numbered (i + 1) xs n (omega arith))

module _ {V : Type 0} where
  pub formed_at : (n : ℕ) (ss : List (Station V)) (k : ℕ) → k < length ss → all_formed n ss ≡ true → formed n k (station_at ss k) ≡ true
  formed_at n ss k h e =
      let test = λ (p : ℕ × Station V). formed n p.0 p.1 in
      let P : ℕ × Station V → Type 0 = λ p. test p ≡ true in
      let z : (0 + k, station_at ss k) ≡ (k, station_at ss k) = let e : 0 + k ≡ k = omega arith in ap (λ j. (j, station_at ss k)) e in
      subst P (get_or-enumerate_from 0 ss k (0, blank) h ∙ z)
      (All-get_or P (enumerate_from 0 ss) k (0, blank) (omega (arith, length-enumerate_from 0 ss)) (AllPass-from_list_all test (enumerate_from 0 ss) e))

  pub proposed_at : (ss : List (Station V)) (k : ℕ) → k < length ss → all_proposed ss ≡ true → is_some (station_at ss k).estimate ≡ true
  proposed_at ss k h e =
      let P : Station V → Type 0 = λ s. is_some s.estimate ≡ true in
      All-get_or P ss k blank h (AllPass-from_list_all (λ s. is_some s.estimate) ss e)
