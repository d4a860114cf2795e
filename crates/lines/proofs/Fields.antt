-- Where the first separator stands.
use Rattle.std.proofs.Common.{◌≡◌, ℕ, zero, suc, ◌+◌, ◌<◌, List, [], ◌∷◌, length, get_or, take, drop, Some, None, Option, sym, refl, ap, ◌∙◌, arith, MatchOption}
use Rattle.std.specs.List.{AllWithin, HoldsAt}
use Rattle.std.proofs.lemmas.Bool.{eq-eqb, ne_eqb, cond-true, cond-false}
use Rattle.lines.specs.Lines.{◌>>=◌, longer, split}

-- no separator among the first n bytes
abbrev pub Clear : List ℕ → ℕ → Type 0
Clear s n = (k : ℕ) → k < n → get_or s k 0 ≡ 44 → ⊥

pub split_at : (s : List ℕ) (i : ℕ) → i < length s → Clear s i → get_or s i 0 ≡ 44 → split s ≡ Some (take i s, drop (suc i) s)
unfolding split
split_at [] i h f e = absurd (omega arith)
split_at (c ∷ cs) zero h f e = cond-true _ _ _ (eq-eqb c 44 e)
split_at (c ∷ cs) (suc i) h f e =
    cond-false _ _ _ (ne_eqb c 44 (f 0 (omega arith)))
    ∙ ap (λ r. r >>= longer c) (split_at cs i (omega arith) (λ k l. f (suc k) (omega arith)) e)

pub split_none : (s : List ℕ) → Clear s (length s) → split s ≡ None
unfolding split
split_none [] f = refl
split_none (c ∷ cs) f =
    cond-false _ _ _ (ne_eqb c 44 (f 0 (omega arith)))
    ∙ ap (λ r. r >>= longer c) (split_none cs (λ k l. f (suc k) (omega arith)))

-- a byte that is a separator, and one that is none
abbrev pub IsSeparator : ℕ → Type 0
IsSeparator c = c ≡ 44

abbrev pub IsOther : ℕ → Type 0
IsOther c = c ≡ 44 → ⊥

-- a text cut in two at the place of a separator
abbrev pub cut : List ℕ → Option ℕ → Option (List ℕ × List ℕ)
cut s None = None
cut s (Some i) = Some (take i s, drop (i + 1) s)

pub split_cut : (s : List ℕ) (r : Option ℕ) → MatchOption r (AllWithin IsOther s 0 (length s)) (λ i. (i < length s) × HoldsAt IsSeparator s i × AllWithin IsOther s 0 i) → split s ≡ cut s r
split_cut s None h = split_none s (λ k l. h k 0 (omega arith) l)
split_cut s (Some i) h =
    let one : i + 1 ≡ suc i = omega arith in
    split_at s i h.0 (λ k l. h.2 k 0 (omega arith) l) (h.1 0) ∙ ap (λ k. Some (take i s, drop k s)) (sym one)
