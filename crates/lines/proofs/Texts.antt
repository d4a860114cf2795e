-- Where the first line ends.
use Rattle.std.proofs.Common.{◌≡◌, ℕ, zero, suc, ◌+◌, ◌-◌, ◌<◌, ◌≤◌, Bool, true, false, cond, List, [], ◌∷◌, length, get_or, take, drop, Some, None, Option, Bor, sym, refl, ap, ◌∙◌, ⊎_elim, arith, length-drop, MatchOption}
use Rattle.std.specs.Iterator.{AlwaysYields}
use Rattle.std.specs.List.{AllWithin, HoldsAt}
use Rattle.std.specs.Slice.Iter.{windows_rest, windows_size, windows_steps}
use Rattle.std.specs.declared.slice.Windows.{Windows}
use Rattle.std.proofs.lemmas.Bool.{cond-true, cond-false, cond_both, both_ways, and_right, cases_lt}
use Rattle.std.proofs.lemmas.Iterator.{YieldsList}
use Rattle.lines.specs.Lines.{at_end, first_line, lines, onto}

abbrev Cut : Type 0
Cut = List ℕ × List ℕ

-- no line ends at one of the first n places
abbrev pub Unended : List ℕ → ℕ → Type 0
Unended s n = (k : ℕ) → k < n → at_end (drop k s) ≡ false

pub first_at : (s : List ℕ) (i : ℕ) → Unended s i → at_end (drop i s) ≡ true → first_line s ≡ (take i s, drop (suc (suc i)) s)
unfolding first_line
first_at [] zero f e = absurd (both_ways _ refl e)
first_at [] (suc i) f e = absurd (both_ways _ refl e)
first_at (c ∷ cs) zero f e = cond-true _ _ _ e
first_at (c ∷ cs) (suc i) f e =
    cond-false _ _ _ (f 0 (omega arith))
    ∙ ap (λ p. (c ∷ p.0, p.1)) (first_at cs i (λ k l. f (suc k) (omega arith)) e)

pub first_none : (s : List ℕ) → Unended s (length s) → first_line s ≡ (s, [])
unfolding first_line
first_none [] f = refl
first_none (c ∷ cs) f =
    cond-false _ _ _ (f 0 (omega arith))
    ∙ ap (λ p. (c ∷ p.0, p.1)) (first_none cs (λ k l. f (suc k) (omega arith)))

-- the pairs of neighbours in a text
abbrev pub pairs : List ℕ → List (List ℕ)
pairs [] = []
pairs (c ∷ []) = []
pairs (c ∷ (d ∷ ds)) = (c ∷ (d ∷ [])) ∷ pairs (d ∷ ds)

length-pairs : (s : List ℕ) → length (pairs s) ≡ length s - 1
length-pairs [] = refl
length-pairs (c ∷ []) = refl
length-pairs (c ∷ (d ∷ ds)) = omega (arith, length-pairs (d ∷ ds))

at_end_pair : (s : List ℕ) (k : ℕ) (w : List ℕ) → k < length (pairs s) → at_end (get_or (pairs s) k w) ≡ at_end (drop k s)
at_end_pair [] k w h = absurd (omega arith)
at_end_pair (c ∷ []) k w h = absurd (omega arith)
at_end_pair (c ∷ (d ∷ ds)) zero w h = refl
at_end_pair (c ∷ (d ∷ ds)) (suc k) w h = at_end_pair (d ∷ ds) k w (omega arith)

-- what `windows(2)` gives
always_pairs : (s : Windows ℕ) (xs : List ℕ) → windows_rest s ≡ xs → windows_size s ≡ 2 → AlwaysYields windows_steps (λ (w : Bor (List ℕ)). w.now) s (pairs xs)
always_pairs s [] r n = λ w t h. absurd (omega (arith, ap length r, h.1.0))
always_pairs s (c ∷ []) r n = λ w t h. absurd (omega (arith, ap length r, h.1.0))
always_pairs s (c ∷ (d ∷ ds)) r n = (
  λ t h. absurd (omega (arith, ap length r, h.1.0)),
  λ w t h. (h.1.1 ∙ ap (λ k. take k (windows_rest s)) n ∙ ap (take 2) r, always_pairs t (d ∷ ds) (h.1.2 ∙ ap (drop 1) r) (h.0 ∙ n)),
)

pub YieldsList-from_pairs : {s : Windows ℕ} (xs : List ℕ) → windows_rest s ≡ xs → windows_size s ≡ 2 → YieldsList windows_steps (λ w. w.now) s (pairs xs)
YieldsList-from_pairs {s} xs r n = record { runs = always_pairs s xs r n }

-- a pair that is a line's end, and one that is none
abbrev pub Ends : List ℕ → Type 0
Ends w = at_end w ≡ true

abbrev pub Goes : List ℕ → Type 0
Goes w = at_end w ≡ false

unended_pairs : (s : List ℕ) (n : ℕ) → n ≤ length (pairs s) → AllWithin Goes (pairs s) 0 n → Unended s n
unended_pairs s n l h k m = sym (at_end_pair s k [] (omega arith)) ∙ h k [] (omega arith) m

-- the last byte alone ends no line
at_end_last : (s : List ℕ) (k : ℕ) → length s ≡ suc k → at_end (drop k s) ≡ false
at_end_last [] k e = absurd (omega arith)
at_end_last (c ∷ []) zero e = and_right _ _ refl
at_end_last (c ∷ []) (suc k) e = absurd (omega arith)
at_end_last (c ∷ (d ∷ ds)) zero e = absurd (omega arith)
at_end_last (c ∷ (d ∷ ds)) (suc k) e = at_end_last (d ∷ ds) k (omega arith)

-- a text cut in two at the place of a line's end
abbrev pub cut : List ℕ → Option ℕ → List ℕ × List ℕ
cut s None = (s, [])
cut s (Some i) = (take i s, drop (i + 2) s)

pub first_line_cut : (s : List ℕ) (r : Option ℕ) → MatchOption r (AllWithin Goes (pairs s) 0 (length (pairs s))) (λ i. (i < length (pairs s)) × HoldsAt Ends (pairs s) i × AllWithin Goes (pairs s) 0 i) → first_line s ≡ cut s r
first_line_cut s None h =
    first_none s (λ k l. ⊎_elim
    (λ m. unended_pairs s (length (pairs s)) (omega arith) h k m)
    (λ m. at_end_last s k (omega (arith, length-pairs s)))
    (cases_lt k (length (pairs s))))
first_line_cut s (Some i) h =
    let two : i + 2 ≡ suc (suc i) = omega arith in
    first_at s i (unended_pairs s i (omega (arith, h.0)) h.2) (sym (at_end_pair s i [] h.0) ∙ h.1 []) ∙ ap (λ k. (take i s, drop k s)) (sym two)

pub lines_none : (s : List ℕ) → length s ≡ 0 → lines s ≡ []
unfolding lines
lines_none [] e = refl
lines_none (c ∷ cs) e = absurd (omega arith)

-- the first line, and the lines of what follows it
pub lines_step : (s : List ℕ) → 0 < length s → lines s ≡ (first_line s).0 ∷ lines (first_line s).1
unfolding first_line lines
lines_step [] h = absurd (omega arith)
lines_step (c ∷ []) h = sym (ap (λ (p : Cut). p.0 ∷ lines p.1) (cond-false {A = Cut} (at_end (c ∷ [])) ([], []) (c ∷ [], []) (and_right _ _ refl)))
lines_step (c ∷ (d ∷ ds)) h =
    let more = first_line (d ∷ ds) in
    let P : Bool → Type 0 = λ b. cond b ([] ∷ lines ds) (onto c (lines (d ∷ ds))) ≡ (cond {A = Cut} b ([], ds) (c ∷ more.0, more.1)).0 ∷ lines (cond {A = Cut} b ([], ds) (c ∷ more.0, more.1)).1 in
    elim (at_end (c ∷ (d ∷ ds))) as P [ true ↦ refl | false ↦ ap (onto c) (lines_step (d ∷ ds) (omega arith)) ]

-- what follows the first line is shorter than a text that is not empty
pub first_left : (s : List ℕ) → length (first_line s).1 ≤ length s - 1
unfolding first_line
first_left [] = omega arith
first_left (c ∷ cs) =
    cond_both {A = Cut} (at_end (c ∷ cs)) ([], drop 1 cs) (c ∷ (first_line cs).0, (first_line cs).1) (λ p. length p.1 ≤ length (c ∷ cs) - 1)
    (λ e. omega (arith, length-drop 1 cs)) (λ e. omega (arith, first_left cs))

-- a text that is not empty has a first line, and the lines of what follows it
pub next_line : (s : List ℕ) (p : Cut) → 0 < length s → p ≡ first_line s → lines s ≡ p.0 ∷ lines p.1
next_line s p h e = lines_step s h ∙ ap (λ (q : Cut). q.0 ∷ lines q.1) (sym e)
