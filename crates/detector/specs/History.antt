-- Histories of a failure detector, and the law of completeness.
use Rattle.std.specs.Prelude.{◌≡◌, ℕ, suc, ◌<◌, ◌≤◌, Bool, true, false, cond, not, ◌&&◌, ◌||◌, ◌≢◌, List, [], ◌∷◌, ◌==◌, nat_lt}
use Rattle.detector.specs.Meaning.{Meaning, Told, Passed, Adjusted, Fresh}
use Rattle.detector.specs.declared.history.Event.{Event}
use Rattle.detector.specs.declared.history.Event.TheVariants.{Crash, Pass}

-- a detector d is told of the crash of j, and is d' then: nothing changes where j is no station, or crashed before
pub record Telling {D : Type 0} (M : D → Meaning) (j : ℕ) (d d' : D) : Type 0 where
  pub told : j < (M d).stations → (M d).crashed j ≡ false → Told j (M d) (M d')
  pub unknown : (M d).stations ≤ j → d' ≡ d
  pub again : (M d).crashed j ≡ true → d' ≡ d

-- one call takes d to e
abbrev pub Call : {D : Type 0} → (D → Meaning) → Event → D → D → Type 0
Call M (Crash j) d e = Telling M j d e
Call M Pass d e = Passed (M d) (M e)

-- the calls xs, and nothing besides, take d to e
abbrev pub Performs : {D : Type 0} → (D → Meaning) → D → List Event → D → Type 0
Performs M d [] e = e ≡ d
Performs {D} M d (x ∷ xs) e = (b : D) × Call M x d b × Performs M b xs e

-- the calls xs take d to e; before and after each the owner may change what an owner may
abbrev pub Leads : {D : Type 0} → (D → Meaning) → D → List Event → D → Type 0
Leads M d [] e = Adjusted (M d) (M e)
Leads {D} M d (x ∷ xs) e = (a : D) × (b : D) × Adjusted (M d) (M a) × Call M x a b × Leads M b xs e

-- whether telling the crash of j adds a station to those of n that crashed
abbrev pub adds : ℕ → (ℕ → Bool) → ℕ → Bool
adds n crashed j = nat_lt j n && not (crashed j)

-- which of n stations crashed, after a call
abbrev pub crashed_after : ℕ → (ℕ → Bool) → Event → ℕ → Bool
crashed_after n crashed (Crash j) i = (adds n crashed j && i == j) || crashed i
crashed_after n crashed Pass i = crashed i

-- how many passes came since the last telling that added a station, where k had come before this call
abbrev pub counted : ℕ → (ℕ → Bool) → Event → ℕ → ℕ
counted n crashed (Crash j) k = cond (adds n crashed j) 0 k
counted n crashed Pass k = suc k

-- the same after all the calls xs
abbrev pub since : ℕ → (ℕ → Bool) → ℕ → List Event → ℕ
since n crashed k [] = k
since n crashed k (x ∷ xs) = since n (crashed_after n crashed x) (counted n crashed x k) xs

-- every crashed station is suspected by every other
abbrev pub Complete : Meaning → Type 0
Complete m = (i j : ℕ) → i < m.stations → i ≢ j → m.crashed j ≡ true → m.suspected i j ≡ true

-- a fresh detector is complete once as many passes as its patience came since the last telling that added a station,
-- whatever its owner changed around the calls
abbrev pub Completeness : {D : Type 0} → (D → Meaning) → Type 0
Completeness {D} M =
    (n p : ℕ) (d e : D) (xs : List Event) → Fresh n p (M d) → Leads M d xs e → p ≤ since n (λ i. false) 0 xs → Complete (M e)
