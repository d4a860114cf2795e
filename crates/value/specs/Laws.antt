-- The laws of a number.
use Rattle.std.specs.Prelude.{◌≡◌, ℕ, ◌+◌, ◌*◌, ◌/◌, ◌%◌, ◌<◌, List, length, Ok, ◌==◌, refl}
use Rattle.std.proofs.Common.{arith, eqb-true, eq-eqb, ap, ◌∙◌, subst}
use Rattle.std.proofs.Math.Bridge.{le_prop}
use Rattle.std.proofs.lemmas.Nat.{be_bytes_8}
use Rattle.std.specs.Int.{w64, to_be_bytes}
use Rattle.value.specs.declared.number.Number.{Number}
use Rattle.value.specs.Xdr.{unit_at, Bytes}
use Rattle.value.specs.Numbers.{number_code, number_parse, number_of}
use Rattle.value.specs.Passed.{passed}
use Rattle.value.specs.Units.{unit-word, unit_at_lt}

abbrev make : (v : ℕ) → v < 18446744073709551616 → Number
make v p = record { value = v; fits = p }

pub number_same : (m n : Number) → m.value ≡ n.value → m ≡ n
number_same m n e =
    let P : ℕ → Type 0 = λ w. (q : w < 18446744073709551616) → m ≡ make w q in
    subst P e (λ q. ap (make m.value) (le_prop m.fits q)) n.fits

pub number-decoded : (s : List ℕ) (n : Number) → length s ≡ 8 → unit_at s 0 * 4294967296 + unit_at s 4 ≡ n.value → number_parse s ≡ Ok n
number-decoded s n l e =
    let number : number_of (unit_at s 0 * 4294967296 + unit_at s 4) ≡ n = number_same _ n (omega arith) in
    rw (eq-eqb _ _ l) (ap Ok number)

pub number_reads : (n : Number) → number_parse (number_code n) ≡ Ok n
number_reads n =
    let v = n.value in
    number-decoded (number_code n) n refl (omega (arith, unit-word (v / 4294967296) (omega arith), unit-word (v % 4294967296) (omega arith)))

pub number_writes : (s : List ℕ) (n : Number) → Bytes s → number_parse s ≡ Ok n → number_code n ≡ s
number_writes s n p e =
    let read = passed (length s == 8) _ _ n e in
    let number : number_of (unit_at s 0 * 4294967296 + unit_at s 4) ≡ n = cc in
    let value : n.value ≡ unit_at s 0 * 4294967296 + unit_at s 4 = omega (arith, ap (λ (m : Number). m.value) number, unit_at_lt s 0 p, unit_at_lt s 4 p) in
    let bytes : number_code n ≡ to_be_bytes w64 n.value = grind arith in
    bytes ∙ be_bytes_8 s n.value (eqb-true _ _ read.0) p (omega arith)
