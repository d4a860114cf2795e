-- What the lines of a text say.
use Rattle.std.specs.Prelude.{ℕ, ◌+◌, ◌-◌, ◌*◌, ◌^◌, Bool, true, cond, ◌&&◌, List, [], ◌∷◌, length, drop, Some, None, codes, Option, option_and_then, option_map, ◌==◌, nat_le, nat_lt, slice_index}
use Rattle.std.specs.Borrow.{Bor}
use Rattle.std.specs.Str.{bytes_eq}
use Rattle.lines.specs.declared.syntax.Symbol.{Symbol}
use Rattle.lines.specs.declared.syntax.Symbol.TheVariants.{Digit, Separator, Other}
use Rattle.lines.specs.declared.syntax.Call.{Call}
use Rattle.lines.specs.declared.syntax.Call.TheVariants as c

-- whether a byte is one of the characters 0 to 9
abbrev pub is_digit : ℕ → Bool
is_digit c = nat_le 48 c && nat_le c 57

-- what a character is to the reader of a field
abbrev pub symbol_of : ℕ → Symbol
symbol_of c = cond (is_digit c) (Digit (c - 48)) (cond (c == 44) Separator Other)

-- one more digit behind a number, as long as it stays below 2 ^ 64
abbrev pub extended : ℕ → ℕ → Option ℕ
extended v d = cond (nat_lt (v * 10 + d) (2 ^ 64)) (Some (v * 10 + d)) None

-- one more character behind a number, if it is a digit
abbrev pub extended_by : ℕ → ℕ → Option ℕ
extended_by v c = cond (is_digit c) (extended v (c - 48)) None

-- each byte is a digit
abbrev pub all_digits : List ℕ → Bool
all_digits [] = true
all_digits (c ∷ cs) = is_digit c && all_digits cs

-- the digits behind a number
abbrev pub value_after : ℕ → List ℕ → ℕ
value_after n [] = n
value_after n (c ∷ cs) = value_after (n * 10 + (c - 48)) cs

-- the number that digits write
abbrev pub value : List ℕ → ℕ
value s = value_after 0 s

-- 1 to 20 digits, below 2 ^ 64
abbrev pub is_number : List ℕ → Bool
is_number s = nat_le 1 (length s) && (nat_le (length s) 20 && (all_digits s && nat_lt (value s) (2 ^ 64)))

-- the number that a field writes
unfoldable pub number_of : List ℕ → Option ℕ
number_of s = cond (is_number s) (Some (value s)) None

-- the second step, where the first gave something
infixl 10 ◌>>=◌
abbrev pub ◌>>=◌ : {A B : Type 0} → Option A → (A → Option B) → Option B
o >>= f = option_and_then f o

-- one byte more in front of the first part
abbrev pub longer : ℕ → List ℕ × List ℕ → Option (List ℕ × List ℕ)
longer c p = Some (c ∷ p.0, p.1)

-- what stands before the first separator, and what after it
unfoldable pub split : List ℕ → Option (List ℕ × List ℕ)
split [] = None
split (c ∷ cs) = cond (c == 44) (Some ([], cs)) (split cs >>= longer c)

-- what two borrowed parts hold
abbrev pub seen_pair : Option (Bor (List ℕ) × Bor (List ℕ)) → Option (List ℕ × List ℕ)
seen_pair parts = option_map (λ p. (p.0.now, p.1.now)) parts

-- the word in front of a line
pub data Word : Type 0 where
  Open : Word
  Propose : Word
  Start : Word
  Deliver : Word
  Consult : Word
  Crash : Word
  Pass : Word

-- the word that a field names
abbrev pub word_of : List ℕ → Option Word
word_of s =
    cond (bytes_eq s (codes "open")) (Some Open)
    (cond (bytes_eq s (codes "propose")) (Some Propose)
    (cond (bytes_eq s (codes "start")) (Some Start)
    (cond (bytes_eq s (codes "deliver")) (Some Deliver)
    (cond (bytes_eq s (codes "consult")) (Some Consult)
    (cond (bytes_eq s (codes "crash")) (Some Crash)
    (cond (bytes_eq s (codes "pass")) (Some Pass) None))))))

-- a call whose number has to be 0
abbrev pub if_zero : ℕ → Option Call → Option Call
if_zero n c = cond (n == 0) c None

-- the call of a word and two numbers
abbrev pub call_of : Word → ℕ → ℕ → Option Call
call_of Open a b = Some (c.Open a b)
call_of Propose a b = Some (c.Propose a b)
call_of Start a b = if_zero a (if_zero b (Some c.Start))
call_of Deliver a b = if_zero b (Some (c.Deliver a))
call_of Consult a b = if_zero b (Some (c.Consult a))
call_of Crash a b = if_zero b (Some (c.Crash a))
call_of Pass a b = if_zero a (if_zero b (Some c.Pass))

-- the call of a text that names a word, and two numbers
abbrev pub call_named : List ℕ → ℕ → ℕ → Option Call
call_named s a b = word_of s >>= (λ word. call_of word a b)

-- the call that a line writes: a word and two numbers
abbrev pub reading : List ℕ → Option Call
reading line = do
  parts ← split line
  numbers ← split parts.1
  word ← word_of parts.0
  first ← number_of numbers.0
  second ← number_of numbers.1
  call_of word first second

-- whether a line's end, 13 and 10, stands in front
abbrev pub at_end : List ℕ → Bool
at_end s = slice_index s 0 == 13 && slice_index s 1 == 10

-- the first line of a text, and what follows its end
unfoldable pub first_line : List ℕ → List ℕ × List ℕ
first_line [] = ([], [])
first_line (c ∷ cs) = cond (at_end (c ∷ cs)) ([], drop 1 cs) (c ∷ (first_line cs).0, (first_line cs).1)

-- one byte more in front of the first line
abbrev pub onto : ℕ → List (List ℕ) → List (List ℕ)
onto c [] = (c ∷ []) ∷ []
onto c (l ∷ ls) = (c ∷ l) ∷ ls

-- the lines of a text: each ends in 13 and 10, and the last may lack its end
unfoldable pub lines : List ℕ → List (List ℕ)
lines [] = []
lines (c ∷ []) = (c ∷ []) ∷ []
lines (c ∷ (d ∷ ds)) = cond (at_end (c ∷ (d ∷ ds))) ([] ∷ lines ds) (onto c (lines (d ∷ ds)))
