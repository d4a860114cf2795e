-- Reading digit by digit gives the number that the text writes.
use Rattle.std.proofs.Common.{◌≡◌, ℕ, ◌+◌, ◌-◌, ◌*◌, ◌^◌, ◌<◌, ◌≤◌, Bool, true, false, cond, ◌&&◌, ltb, List, [], ◌∷◌, length, Some, None, Option, sym, refl, ap, ◌∙◌, subst, arith, MatchOption}
use denote.Param.Members.{Mut, Called}
use Rattle.std.proofs.lemmas.Iterator.{YieldsList}
use Rattle.std.specs.ControlFlow.{continue_value}
use Rattle.std.specs.Iterator.{AlwaysYields, Yields, TryFoldTurn, TryFoldsItems}
use Rattle.std.specs.List.{FoldsTo}
use Rattle.std.proofs.lemmas.Bool.{lt-ltb, le-ltb, le-leb, lt-leb, ltb-true, ltb-false, cond-true, cond-false, cond_both, and_left, and_right}
use Rattle.lines.specs.Lines.{is_digit, extended, extended_by, all_digits, value_after, value, number_of, ◌>>=◌}

-- the characters behind a number, one after the other
abbrev pub run : ℕ → List ℕ → Option ℕ
run n [] = Some n
run n (c ∷ cs) = extended_by n c >>= (λ m. run m cs)

pub value_ge : (n : ℕ) (s : List ℕ) → n ≤ value_after n s
value_ge n [] = omega arith
value_ge n (c ∷ cs) = omega (arith, value_ge (n * 10 + (c - 48)) cs)

-- what the digits behind n give
abbrev told : ℕ → List ℕ → Option ℕ
told n s = cond (all_digits s && ltb (value_after n s) (2 ^ 64)) (Some (value_after n s)) None

pub run_is : (n : ℕ) (s : List ℕ) → n < 2 ^ 64 → run n s ≡ told n s
run_is n [] h = sym (cond-true _ _ _ (lt-ltb n (2 ^ 64) h))
run_is n (c ∷ cs) h =
    let m : ℕ = n * 10 + (c - 48) in
    let P : Bool → Type 0 = λ b. (cond b (extended n (c - 48)) None >>= (λ k. run k cs)) ≡ cond ((b && all_digits cs) && ltb (value_after m cs) (2 ^ 64)) (Some (value_after m cs)) None in
    elim (is_digit c) as P [
      | true ↦ cond_both (ltb m (2 ^ 64)) (Some m) None (λ x. (x >>= (λ k. run k cs)) ≡ told m cs)
          (λ e. run_is m cs (ltb-true _ _ e))
          (λ e. let big : 2 ^ 64 ≤ value_after m cs = omega (arith, ltb-false m (2 ^ 64) e, value_ge m cs) in sym (cond-false _ _ _ (and_right (all_digits cs) _ (le-ltb (value_after m cs) (2 ^ 64) big))))
      | false ↦ refl
    ]

-- between 1 and 20 digits
pub run_fits : (s : List ℕ) → 0 < length s → length s ≤ 20 → run 0 s ≡ number_of s
unfolding number_of
run_fits s some few =
    run_is 0 s (omega arith)
    ∙ sym (ap (λ b. cond b (Some (value s)) None) (simp (le-leb 1 (length s) some, le-leb (length s) 20 few)))

pub too_short : (s : List ℕ) → length s ≡ 0 → None ≡ number_of s
unfolding number_of
too_short s e = sym (cond-false _ _ _ (and_left _ _ (lt-leb 1 (length s) (omega arith))))

pub too_long : (s : List ℕ) → 20 < length s → None ≡ number_of s
unfolding number_of
too_long s h = sym (cond-false _ _ _ (and_right _ _ (and_left _ _ (lt-leb (length s) 20 h))))

-- what `try_fold` gives over these characters, where each call gives one more behind the number
module _ {S A F : Type 0} (E : Type 0) (steps : S → Option A → S → Type 0) (v : A → ℕ) (g : Mut F (ℕ × (A × Unit {0})) (Option ℕ)) (f : F) (calls : (n : ℕ) (x : A) (r : Option ℕ) (q : F) → Called g f (n, (x, tt)) r q → (q ≡ f) × (r ≡ extended_by n (v x))) where
  abbrev Turn : F × ℕ → A → F × ℕ → Type 0
  Turn = TryFoldTurn {E = E} g (λ r c. r ≡ continue_value c)

  abbrev Last : ℕ → F → Option ℕ → Option A → Type 0
  Last a j r o = MatchOption o (r ≡ Some a) (λ x. (w : Option ℕ) × (h : F) × E × Called g j (a, (x, tt)) w h × (w ≡ None) × (r ≡ None))

  folded : (all : List ℕ) (s t u : S) (n a : ℕ) (xs : List A) (o : Option A) (j : F) (r : Option ℕ) → AlwaysYields steps v s all → Yields steps s xs t → steps t o u → FoldsTo Turn (f, n) xs (j, a) → Last a j r o → r ≡ run n all
  folded [] s t u n a [] None j r y e l m h = h ∙ ap (λ p. Some p.1) (sym m)
  folded [] s t u n a [] (Some x) j r y e l m h = absurd (y x u (subst (λ z. steps z (Some x) u) (sym e) l))
  folded [] s t u n a (x ∷ xs) o j r y e l m h = absurd (y x e.0 e.1)
  folded (c ∷ cs) s t u n a [] None j r y e l m h = absurd (y.0 u (subst (λ z. steps z None u) (sym e) l))
  folded (c ∷ cs) s t u n a [] (Some x) j r y e l m h =
      let same = (y.1 x u (subst (λ z. steps z (Some x) u) (sym e) l)).0 in
      let call = calls n x h.0 h.1 (subst (λ (p : F × ℕ). Called g p.0 (p.1, (x, tt)) h.0 h.1) (sym m) h.3) in
      h.5 ∙ ap (λ z. z >>= (λ k. run k cs)) (sym h.4 ∙ call.1 ∙ ap (extended_by n) same)
  folded (c ∷ cs) s t u n a (x ∷ xs) o j r y e l m h =
      let yields = y.1 x e.0 e.1 in
      let turn = m.1 in
      let call = calls n x turn.0 m.0.0 turn.1 in
      let rest = subst (λ z. FoldsTo Turn (z, m.0.1) xs (j, a)) call.0 m.2 in
      folded cs e.0 t u m.0.1 a xs o j r yields.1 e.2 l rest h
      ∙ ap (λ z. z >>= (λ k. run k cs)) (sym turn.2 ∙ call.1 ∙ ap (extended_by n) yields.0)

  pub run_from_try_fold : {s u : S} {all : List ℕ} (n : ℕ) (r : Option ℕ) → TryFoldsItems steps g (λ r c. r ≡ continue_value c) (λ (_ : E) r. r ≡ None) s f n r u → YieldsList steps v s all → r ≡ run n all
  run_from_try_fold {s} {u} {all} n r h y = folded all s h.4.0 u n h.3 h.0 h.1 h.2 r y.runs h.4.1 h.4.2 h.5 h.6
