-- The laws of a graded map.
use Rattle.std.specs.Prelude.{◌≡◌, ℕ, ◌%◌, ◌<◌, Bool, true, false, cond, ◌&&◌, List, ◌++◌, length, ℤ, pos, negsuc, ◌≤ℤ◌, Ok, FitsSigned, ◌==◌, int_le, nat_lt, refl}
use Rattle.std.proofs.Common.{arith, eqb-true, eq-eqb, ltb-true, to_z, of_z, sym, ap, ◌∙◌, subst}
use Rattle.std.proofs.Math.Bridge.{le_prop}
use Rattle.std.proofs.Props.{props}
use Rattle.std.specs.Int.{w32}
use Rattle.std.proofs.lemmas.Int.{ints, clamps, to_z-of_z, of_z-to_z}
use Rattle.value.specs.declared.graded_map.GradedMap.{GradedMap}
use Rattle.value.specs.Xdr.{unit, unit_at, Bytes}
use Rattle.value.specs.Maps.{map_code, map_parse, map_of, map_units, clamped}
use Rattle.value.specs.Passed.{passed}
use Rattle.value.specs.Units.{unit-word, unit_at_lt, next_unit, last-unit}

abbrev make : (m : ℕ) (z : ℤ) (v : Bool) → m < 4294967296 → negsuc 999 ≤ℤ z → z ≤ℤ pos 1000 → GradedMap
make m z v p q r = record { map = m; grade = z; verso = v; fits = p; low = q; high = r }

pub map_same : (g h : GradedMap) → g.map ≡ h.map → g.grade ≡ h.grade → g.verso ≡ h.verso → g ≡ h
map_same g h a b c =
    let P : ℕ → Type 0 = λ m. (p : m < 4294967296) → g ≡ make m g.grade g.verso p g.low g.high in
    let Q : ℤ → Type 0 = λ z. (q : negsuc 999 ≤ℤ z) (r : z ≤ℤ pos 1000) → g ≡ make h.map z g.verso h.fits q r in
    let R : Bool → Type 0 = λ v. g ≡ make h.map h.grade v h.fits h.low h.high in
    let first : P h.map = subst P a (λ p. ap (λ x. make g.map g.grade g.verso x g.low g.high) (le_prop g.fits p)) in
    let low_prop : IsProp (negsuc 999 ≤ℤ g.grade) = hlevel props in
    let high_prop : IsProp (g.grade ≤ℤ pos 1000) = hlevel props in
    let second : Q h.grade = subst Q b (λ q r. first h.fits ∙ ap (λ x. make h.map g.grade g.verso h.fits x g.high) (low_prop g.low q) ∙ ap (λ x. make h.map g.grade g.verso h.fits q x) (high_prop g.high r)) in
    subst R c (second h.low h.high)

unclamped : (z : ℤ) → negsuc 999 ≤ℤ z → z ≤ℤ pos 1000 → clamped z ≡ z
unclamped z p q = omega (arith, ints, clamps)

mark : (b : Bool) → (nat_lt (cond b 1 0) 2 ≡ true) × ((cond b 1 0 == 1) ≡ b)
mark true = (refl, refl)
mark false = (refl, refl)

-- three units that are those of a graded map
pub map_of_units : (m : ℕ) (z : ℤ) (v : ℕ) (g : GradedMap) → m ≡ g.map → z ≡ g.grade → v ≡ cond g.verso 1 0 → map_units m z v ≡ Ok g
map_of_units m z v g a b c =
    let low : int_le (negsuc 999) g.grade ≡ true = grind (arith, ints) in
    let high : int_le g.grade (pos 1000) ≡ true = grind (arith, ints) in
    let same : map_of g.map g.grade (cond g.verso 1 0 == 1) ≡ g = map_same _ g (omega arith) (unclamped g.grade g.low g.high) (mark g.verso).1 in
    rw (a, b, c, low, high, (mark g.verso).0) (ap Ok same)

-- what twelve bytes read as, by their units
pub map_parsed : (s : List ℕ) (m : ℕ) (z : ℤ) (v : ℕ) → length s ≡ 12 → m ≡ unit_at s 0 → z ≡ to_z w32 (unit_at s 4) → v ≡ unit_at s 8 → map_parse s ≡ map_units m z v
map_parsed s m z v l a b c = rw (eq-eqb _ _ l, a, b, c)

-- twelve bytes that are the units of a graded map
pub map_decoded : (s : List ℕ) (g : GradedMap) → length s ≡ 12 → unit_at s 0 ≡ g.map → to_z w32 (unit_at s 4) ≡ g.grade → unit_at s 8 ≡ cond g.verso 1 0 → map_parse s ≡ Ok g
map_decoded s g l a b c = map_parsed s _ _ _ l refl refl refl ∙ map_of_units _ _ _ g a b c

pub map_reads : (g : GradedMap) → map_parse (map_code g) ≡ Ok g
map_reads g =
    let z : FitsSigned w32 g.grade = omega (arith, ints) in
    let l : of_z w32 g.grade < 4294967296 = omega (arith, ints) in
    let grade = ap (to_z w32) (unit-word (of_z w32 g.grade) l) ∙ to_z-of_z w32 g.grade z in
    map_parsed (map_code g) g.map g.grade (cond g.verso 1 0) refl (sym (unit-word g.map g.fits)) (sym grade) (sym (unit-word (cond g.verso 1 0) (grind arith)))
    ∙ map_of_units _ _ _ g refl refl refl

-- a list of twelve bytes is the three units that it reads as
twelve : (s : List ℕ) → length s ≡ 12 → Bytes s → unit (unit_at s 0) ++ (unit (unit_at s 4) ++ unit (unit_at s 8)) ≡ s
twelve s l p = rw (last-unit s 8 l p, next_unit s 4 8 refl (omega arith) p) (next_unit s 0 4 refl (omega arith) p)

-- what is read as a graded map: its units, in range
map_of_code : (m v : ℕ) (n : ℕ) → m < 4294967296 → n < 4294967296 → v < 2 → negsuc 999 ≤ℤ to_z w32 n → to_z w32 n ≤ℤ pos 1000 → map_code (map_of m (to_z w32 n) (v == 1)) ≡ unit m ++ (unit n ++ unit v)
map_of_code m v n p q r low high =
    let map : m % 4294967296 ≡ m = omega arith in
    let grade : of_z w32 (clamped (to_z w32 n)) ≡ n = ap (of_z w32) (unclamped (to_z w32 n) low high) ∙ of_z-to_z w32 n q in
    let verso : cond (v == 1) 1 0 ≡ v = grind arith in
    cc

pub map_writes : (s : List ℕ) (g : GradedMap) → Bytes s → map_parse s ≡ Ok g → map_code g ≡ s
map_writes s g p e =
    let whole = passed (length s == 12) _ _ g e in
    let graded = passed (int_le (negsuc 999) (to_z w32 (unit_at s 4)) && int_le (to_z w32 (unit_at s 4)) (pos 1000)) _ _ g whole.1 in
    let marked = passed (nat_lt (unit_at s 8) 2) _ _ g graded.1 in
    let same : map_of (unit_at s 0) (to_z w32 (unit_at s 4)) (unit_at s 8 == 1) ≡ g = cc in
    let units = map_of_code (unit_at s 0) (unit_at s 8) (unit_at s 4) (unit_at_lt s 0 p) (unit_at_lt s 4 p) (ltb-true _ _ marked.0) (grind (arith, ints)) (grind (arith, ints)) in
    ap map_code (sym same) ∙ units ∙ twelve s (eqb-true _ _ whole.0) p
