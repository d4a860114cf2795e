-- A line reads exactly when its fields say a call.
use Rattle.std.proofs.Common.{◌≡◌, ℕ, ◌^◌, ◌<◌, true, not, ◌&&◌, eqb, ltb, leb, List, [], ◌∷◌, ◌++◌, length, Some, None, codes, decimal, Option, sym, refl, ap, ◌∙◌, subst, ⊎_elim, arith, rules}
use Rattle.std.proofs.lemmas.Bool.{eqb-true, le-leb, lt-ltb, cond-true, cond-false, cases_Bool, and_parts, and_from, not-true, leb-true, ne_eqb}
use Rattle.std.proofs.lemmas.Option.{option_and_then_some}
use Rattle.std.proofs.lemmas.Str.Parse.{IsNumeralModel, numerals_by_fold}
use Rattle.std.proofs.lemmas.Fmt.{digits_decimal, digits_value-decimal, length-decimal-le, decimal_nonempty}
use Rattle.lines.specs.declared.syntax.Call.{Call}
use Rattle.lines.specs.Lines.{Word, is_digit, all_digits, value_after, value, is_number, number_of, split, ◌>>=◌, longer, word_of, call_of, reading}
use Rattle.lines.specs.Lines as w
use Rattle.lines.specs.declared.syntax.Call.TheVariants as c
use Rattle.lines.specs.Exact.{plain, Says, ExactReading, written, shown, Small}

own : IsNumeralModel (λ ds. all_digits ds ≡ true) (value_after 0)
own = numerals_by_fold _ (search rules) value_after (search rules)

pub number_decimal : (n : ℕ) → n < 2 ^ 64 → number_of (decimal n) ≡ Some n
unfolding number_of
number_decimal n h =
    let long = length-decimal-le 20 n (omega arith) (omega arith) h in
    let same = digits_value-decimal own n h in
    cond-true (is_number (decimal n)) (Some (value (decimal n))) None
    (and_from _ _ (le-leb 1 (length (decimal n)) (decimal_nonempty n h))
    (and_from _ _ (le-leb (length (decimal n)) 20 long)
    (and_from _ _ (digits_decimal own n h) (lt-ltb (value (decimal n)) (2 ^ 64) (omega arith)))))
    ∙ ap Some same

from_some : {A : Type 0} (x y : A) → ◌≡◌ {A = Option A} (Some x) (Some y) → x ≡ y
from_some x y e = cc

none_some : {A : Type 0} (x : A) → ◌≡◌ {A = Option A} None (Some x) → ⊥
none_some x e = cc

then_some : {A B : Type 0} (o : Option A) (f : A → Option B) (y : B) → (o >>= f) ≡ Some y → (x : A) × ((o ≡ Some x) × (f x ≡ Some y))
then_some o f y e = option_and_then_some f o y e (λ x h k. (x, (h, k)))

abbrev Cut : Type 0
Cut = List ℕ × List ℕ

-- the parts that split gives, put together again
pub split-sound : (s : List ℕ) (p : Cut) → split s ≡ Some p → (s ≡ p.0 ++ (44 ∷ p.1)) × (plain p.0 ≡ true)
unfolding split
split-sound [] p e = absurd (none_some p e)
split-sound (c ∷ cs) p e =
    let Goal : Cut → Type 0 = λ q. (c ∷ cs ≡ q.0 ++ (44 ∷ q.1)) × (plain q.0 ≡ true) in
    ⊎_elim
    (λ t. subst Goal (from_some ([], cs) p (sym (cond-true (eqb c 44) _ _ t) ∙ e)) (ap (λ x. x ∷ cs) (eqb-true c 44 t), refl))
    (λ t.
    let rest = then_some (split cs) (longer c) p (sym (cond-false (eqb c 44) _ _ t) ∙ e) in
    let q : Cut = rest.0 in
    let ih = split-sound cs q rest.1.0 in
    subst Goal (from_some (c ∷ q.0, q.1) p rest.1.1) (ap (λ l. c ∷ l) ih.0, and_from (not (eqb c 44)) (plain q.0) (ap not t) ih.1))
    (cases_Bool (eqb c 44))

pub split-complete : (w r : List ℕ) → plain w ≡ true → split (w ++ (44 ∷ r)) ≡ Some (w, r)
unfolding split
split-complete [] r p = refl
split-complete (c ∷ cs) r p =
    let q = and_parts (not (eqb c 44)) (plain cs) p in
    cond-false (eqb c 44) _ _ (not-true (eqb c 44) q.0) ∙ ap (λ o. o >>= longer c) (split-complete cs r q.1)

digits_plain : (s : List ℕ) → all_digits s ≡ true → plain s ≡ true
digits_plain [] e = refl
digits_plain (c ∷ cs) e =
    let parts = and_parts (is_digit c) (all_digits cs) e in
    let low = leb-true 48 c (and_parts (leb 48 c) (leb c 57) parts.0).0 in
    and_from (not (eqb c 44)) (plain cs) (ap not (ne_eqb c 44 (λ z. omega arith))) (digits_plain cs parts.1)

-- a number has no separator
pub number-plain : (s : List ℕ) (n : ℕ) → number_of s ≡ Some n → plain s ≡ true
unfolding number_of
number-plain s n e =
    ⊎_elim
    (λ t.
    let small = ltb (value s) (2 ^ 64) in
    let most = leb (length s) 20 in
    let one = and_parts (leb 1 (length s)) (most && (all_digits s && small)) t in
    let two = and_parts most (all_digits s && small) one.1 in
    digits_plain s (and_parts (all_digits s) small two.1).0)
    (λ t. absurd (none_some n (sym (cond-false (is_number s) _ _ t) ∙ e)))
    (cases_Bool (is_number s))

sound : (line : List ℕ) (k : Call) → reading line ≡ Some k → Says line k
sound line k e =
    let p = then_some (split line) _ k e in
    let q = then_some (split p.0.1) _ k p.1.1 in
    let w = then_some (word_of p.0.0) _ k q.1.1 in
    let a = then_some (number_of q.0.0) _ k w.1.1 in
    let b = then_some (number_of q.0.1) _ k a.1.1 in
    let line-parts = split-sound line p.0 p.1.0 in
    let rest-parts = split-sound p.0.1 q.0 q.1.0 in
    record {
      word = p.0.0;
      first = q.0.0;
      second = q.0.1;
      name = w.0;
      a = a.0;
      b = b.0;
      fields = line-parts.0 ∙ ap (λ l. p.0.0 ++ (44 ∷ l)) rest-parts.0;
      unmixed = line-parts.1;
      named = w.1.0;
      reads_a = a.1.0;
      reads_b = b.1.0;
      makes = b.1.1;
    }

complete : (line : List ℕ) (k : Call) → Says line k → reading line ≡ Some k
complete line k h =
    let one = split-complete h.word (h.first ++ (44 ∷ h.second)) h.unmixed in
    let two = split-complete h.first h.second (number-plain h.first h.a h.reads_a) in
    rw (h.fields, one, two, h.named, h.reads_a, h.reads_b) h.makes

line_reads : (word : List ℕ) (name : Word) (a b : ℕ) (k : Call) → plain word ≡ true → word_of word ≡ Some name → a < 2 ^ 64 → b < 2 ^ 64 → call_of name a b ≡ Some k → reading (written word a b) ≡ Some k
line_reads word name a b k p w la lb m =
    complete (written word a b) k (record {
      word = word;
      first = decimal a;
      second = decimal b;
      name = name;
      a = a;
      b = b;
      fields = refl;
      unmixed = p;
      named = w;
      reads_a = number_decimal a la;
      reads_b = number_decimal b lb;
      makes = m;
    })

-- what is written of a call reads as the call
pub reads_back : (k : Call) → Small k → reading (shown k) ≡ Some k
reads_back (c.Open n p) h = line_reads (codes "open") w.Open n p _ refl refl h.0 h.1 refl
reads_back (c.Propose i v) h = line_reads (codes "propose") w.Propose i v _ refl refl h.0 h.1 refl
reads_back c.Start h = line_reads (codes "start") w.Start 0 0 _ refl refl (omega arith) (omega arith) refl
reads_back (c.Deliver k) h = line_reads (codes "deliver") w.Deliver k 0 _ refl refl h (omega arith) refl
reads_back (c.Consult i) h = line_reads (codes "consult") w.Consult i 0 _ refl refl h (omega arith) refl
reads_back (c.Crash i) h = line_reads (codes "crash") w.Crash i 0 _ refl refl h (omega arith) refl
reads_back c.Pass h = line_reads (codes "pass") w.Pass 0 0 _ refl refl (omega arith) (omega arith) refl

pub exact : ExactReading
exact = record { sound = sound; complete = complete; numbers = number_decimal; back = reads_back }
