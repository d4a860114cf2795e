-- A text that has a word's bytes names the word's calls.
use Rattle.std.proofs.Common.{◌≡◌, ℕ, zero, suc, ◌+◌, ◌<◌, List, [], ◌∷◌, length, get_or, refl, ap, ◌∙◌, arith}
use Rattle.std.proofs.lemmas.List.{ext_get_or}
use Rattle.lines.specs.Lines.{call_named}

-- the bytes of a text from place i on begin with these
abbrev pub Reads : List ℕ → ℕ → List ℕ → Type 0
Reads s i [] = Unit {0}
Reads s i (x ∷ xs) = (get_or s i 0 ≡ x) × Reads s (suc i) xs

reads_at : (s w : List ℕ) (i j k : ℕ) → Reads s i w → k < length w → j ≡ i + k → get_or s j 0 ≡ get_or w k 0
reads_at s [] i j k h l e = absurd (omega arith)
reads_at s (x ∷ xs) i j zero h l e = let same : j ≡ i = omega arith in ap (λ n. get_or s n 0) same ∙ h.0
reads_at s (x ∷ xs) i j (suc k) h l e = reads_at s xs (suc i) j k h.1 (omega arith) (omega arith)

pub named : (s w : List ℕ) (a b j k : ℕ) → length s ≡ length w → Reads s 0 w → a ≡ j → b ≡ k → call_named w j k ≡ call_named s a b
named s w a b j k l h d e =
    let same = ext_get_or 0 s w l (λ i m. reads_at s w 0 i i h (omega arith) (omega arith)) in
    rw (same, d, e) refl
