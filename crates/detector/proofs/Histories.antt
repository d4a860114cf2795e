-- What a history comes to.
use Rattle.std.proofs.Common.{◌≡◌, ℕ, ◌-◌, ◌≤◌, Bool, true, false, ◌⊎◌, List, [], ◌∷◌, ◌++◌, sym, refl, ◌∙◌, inl, inr, ⊎_elim, arith}
use Rattle.std.proofs.lemmas.Bool.{both_ways, cases_Bool}
use Rattle.std.proofs.lemmas.Bool.Decides.{nat_tests}
use Rattle.detector.specs.Meaning.{Meaning, Told, Adjusted, Fresh, Sound}
use Rattle.detector.specs.declared.history.Event.{Event}
use Rattle.detector.specs.declared.history.Event.TheVariants.{Crash, Pass}
use Rattle.detector.specs.History.{Telling, Call, Leads, Performs, adds, crashed_after, counted, since, Completeness}

pub adjusted_same : (m : Meaning) → Adjusted m m
adjusted_same m = record { stations = refl; patience = refl; crashed = λ k. refl; waits = λ k c. omega arith }

-- once k passes came since the last telling that added a station, every wait of a crashed one is at most p - k
pub record Lowered (n p k : ℕ) (m : Meaning) : Type 0 where
  pub stations : m.stations ≡ n
  pub patience : m.patience ≡ p
  pub waits : (j : ℕ) → m.crashed j ≡ true → m.wait j ≤ p - k

pub fresh_lowered : (n p : ℕ) (m : Meaning) → Fresh n p m → Lowered n p 0 m
fresh_lowered n p m fresh = record {
  stations = fresh.stations;
  patience = fresh.patience;
  waits = λ j c. absurd (both_ways _ (fresh.crashed j) c);
}

pub adjusted_lowered : (n p k : ℕ) (m m' : Meaning) → Lowered n p k m → Adjusted m m' → Lowered n p k m'
adjusted_lowered n p k m m' low t = record {
  stations = t.stations ∙ low.stations;
  patience = t.patience ∙ low.patience;
  waits = λ j c. let was = sym (t.crashed j) ∙ c in omega (arith, t.waits j was, low.waits j was);
}

-- which stations crashed is all that the count goes by
module _ (n : ℕ) (c c' : ℕ → Bool) (same : (i : ℕ) → c i ≡ c' i) where
  counted_same : (x : Event) (k : ℕ) → counted n c x k ≡ counted n c' x k
  counted_same (Crash j) k = simp same
  counted_same Pass k = refl

  crashed_same : (x : Event) (i : ℕ) → crashed_after n c x i ≡ crashed_after n c' x i
  crashed_same (Crash j) i = simp same
  crashed_same Pass i = same i

module _ {D : Type 0} (M : D → Meaning) where
  -- one call more, at the end
  pub performs_more : (d e f : D) (xs : List Event) (x : Event) → Performs M d xs e → Call M x e f → Performs M d (xs ++ (x ∷ [])) f
  performs_more d e f [] x same s = (f, rw same at s, refl)
  performs_more d e f (y ∷ xs) x (b, u, l) s = (b, u, performs_more b e f xs x l s)

  -- an owner who changes nothing
  pub performs_leads : (d e : D) (xs : List Event) → Performs M d xs e → Leads M d xs e
  performs_leads d e [] same = rw same (adjusted_same (M d))
  performs_leads d e (x ∷ xs) (b, u, l) = (d, b, adjusted_same (M d), u, performs_leads b e xs l)

  module _ (n p : ℕ) where
    -- a telling adds a station, or alters nothing
    telling_adds : (j : ℕ) (d e : D) → (M d).stations ≡ n → Telling M j d e → ((adds n (M d).crashed j ≡ true) × Told j (M d) (M e)) ⊎ ((adds n (M d).crashed j ≡ false) × (e ≡ d))
    telling_adds j d e size t =
        ⊎_elim
        (λ added. inl (added, t.told (grind (arith, nat_tests)) (grind (arith, nat_tests))))
        (λ known. inr (known, grind (arith, nat_tests, t.unknown, t.again)))
        (cases_Bool (adds n (M d).crashed j))

    -- what one call does to the bound on the waits
    pub call_lowered : (k : ℕ) (x : Event) (d e : D) → Lowered n p k (M d) → Call M x d e → Lowered n p (counted n (M d).crashed x k) (M e)
    call_lowered k (Crash j) d e low t =
        ⊎_elim
        (λ q. let told = q.1 in rw q.0 (record {
          stations = told.stations ∙ low.stations;
          patience = told.patience ∙ low.patience;
          waits = λ i c. omega (arith, told.waits i c, told.patience, low.patience);
        }))
        (λ q. rw (q.0, q.1) low)
        (telling_adds j d e low.stations t)
    call_lowered k Pass d e low t = record {
      stations = t.stations ∙ low.stations;
      patience = t.patience ∙ low.patience;
      waits = λ j c. let was = sym (t.crashed j) ∙ c in omega (arith, t.waits j was, low.waits j was);
    }

    -- what one call does to the crashed stations
    pub call_crashed : (x : Event) (d e : D) → (M d).stations ≡ n → Call M x d e → (i : ℕ) → (M e).crashed i ≡ crashed_after n (M d).crashed x i
    call_crashed (Crash j) d e size t i =
        ⊎_elim (λ q. rw q.0 (q.1.crashed i)) (λ q. rw (q.0, q.1)) (telling_adds j d e size t)
    call_crashed Pass d e size t i = t.crashed i

    pub leads_lowered : (c : ℕ → Bool) (k : ℕ) (d e : D) (xs : List Event) → ((i : ℕ) → (M d).crashed i ≡ c i) → Lowered n p k (M d) → Leads M d xs e → Lowered n p (since n c k xs) (M e)
    leads_lowered c k d e [] same low l = adjusted_lowered n p k (M d) (M e) low l
    leads_lowered c k d e (x ∷ xs) same low (a, b, t, u, l) =
        let here : Lowered n p k (M a) = adjusted_lowered n p k (M d) (M a) low t in
        let known : (i : ℕ) → (M a).crashed i ≡ c i = λ i. t.crashed i ∙ same i in
        let next = call_lowered k x a b here u in
        leads_lowered (crashed_after n c x) (counted n c x k) b e xs
        (λ i. call_crashed x a b here.stations u i ∙ crashed_same n (M a).crashed c known x i)
        (rw (counted_same n (M a).crashed c known x k) at next) l

  pub completeness : ((d : D) → Sound (M d)) → Completeness M
  completeness sound n p d e xs fresh l long i j inside apart crashed =
      let low = leads_lowered n p (λ i. false) 0 d e xs fresh.crashed (fresh_lowered n p (M d) fresh) l in
      let none : (M e).wait j ≡ 0 = omega (arith, low.waits j crashed) in
      (sound e).complete i j inside apart crashed none
