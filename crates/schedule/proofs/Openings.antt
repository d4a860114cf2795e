-- The opening of a run.
use Rattle.std.proofs.Common.{◌≡◌, ℕ, ◌+◌, ◌-◌, ◌*◌, ◌≤◌, List, length, get_or, drop, replicate, Ok, Err, Result, refl, ap, ◌∙◌, subst, ⊎_elim, arith, get_or-drop}
use lib.ListN.{length-replicate}
use Rattle.std.proofs.lemmas.Bool.{cases_lt, le-ltb, eq-eqb}
use Rattle.std.proofs.lemmas.List.{get_or_append_left, get_or-append_right}
use Rattle.value.specs.contracts.kinds.NumberValue.TheImpl as number
use Rattle.detector.proofs.Watches.{get_or-copies}
use Rattle.run.specs.Gather.{cleared, opening}
use Rattle.run.specs.Numbers.{gathered}
use Rattle.run.specs.declared.gathering.Gathering.{Gathering}
use Rattle.run.specs.declared.refusal.Refusal.{Refusal}
use Rattle.schedule.specs.Calls.{Answered, Opened, Opens, Ready}
use Rattle.schedule.specs.States.{Held, gathering, idle}
use Rattle.schedule.specs.Tables.{Blank}

pub blank_new : (n : ℕ) (bs : List ℕ) → bs ≡ replicate n 0 → Blank n bs
blank_new n bs e = record {
  long = ap length e ∙ length-replicate {A = ℕ} n 0;
  empty = λ i. ap (λ l. get_or l i 0) e ∙ get_or-copies n i 0;
}

-- clearing an empty table leaves it empty
pub blank-cleared : (g : Gathering) (bs : List ℕ) → ((i : ℕ) → get_or bs i 0 ≡ 0) → (i : ℕ) → get_or (cleared number.ghosts (Ok g) bs) i 0 ≡ 0
blank-cleared g bs h i =
    let m : ℕ = g.places * 32 in
    let rest : List ℕ = drop (0 + length (replicate {A = ℕ} m 0)) bs in
    ⊎_elim
    (λ l. get_or_append_left (replicate m 0) rest 0 i (omega (arith, length-replicate {A = ℕ} m 0)) ∙ get_or-copies m i 0)
    (λ l. get_or-append_right (replicate m 0) rest m i 0 (length-replicate {A = ℕ} m 0) l ∙ get_or-drop (0 + length (replicate m 0)) bs (i - m) 0 ∙ h _)
    (cases_lt i m)

-- a run over the session's tables, by what each of them has
pub opening_of : (n known stations bytes : ℕ) (o : Result (ℕ × ℕ) Refusal) → o ≡ opening (number.ghosts).WIDTH n known stations bytes → known ≡ n → stations ≡ n → bytes ≡ 19200 → o ≡ opening (number.ghosts).WIDTH n n n 19200
opening_of n known stations bytes o e k l m = e ∙ simp (k, l, m)

-- a run of 3 to 32 stations is opened
opening_is : (n : ℕ) → 3 ≤ n → n ≤ 32 → opening (number.ghosts).WIDTH n n n 19200 ≡ Ok (n, 600)
opening_is n a b = simp (le-ltb n 3 a, le-ltb 32 n b, eq-eqb n n refl, le-ltb 600 n (omega arith))

-- the stations of an opening
abbrev stations_of : Result (ℕ × ℕ) Refusal → ℕ
stations_of (Ok q) = q.0
stations_of (Err e) = 0

pub many : (n : ℕ) (g : Gathering) → 3 ≤ n → n ≤ 32 → Ok (g.n, g.places) ≡ opening (number.ghosts).WIDTH n n n 19200 → g.n ≡ n
many n g a b e = ap stations_of (e ∙ opening_is n a b)

pub opens : (n p : ℕ) (g : Gathering) (h : Held) → Ok (g.n, g.places) ≡ opening (number.ghosts).WIDTH n n n 19200 → Ready n p h → Opens n p (Ok tt) (gathering (gathered g) h)
opens n p g h e ready = subst (λ z. Answered idle z (Opened n p) (Ok tt) (gathering (gathered g) h)) e (refl, (h, (ready, refl)))
