-- When a line reads, in terms of its fields, and the line that writes a call.
use Rattle.std.specs.Prelude.{◌≡◌, ℕ, ◌^◌, ◌<◌, Bool, true, not, ◌&&◌, List, [], ◌∷◌, ◌++◌, Some, codes, decimal, ◌==◌}
use Rattle.lines.specs.declared.syntax.Call.{Call}
use Rattle.lines.specs.declared.syntax.Call.TheVariants as c
use Rattle.lines.specs.Lines.{Word, number_of, word_of, call_of, reading}

-- no separator stands in the text
abbrev pub plain : List ℕ → Bool
plain [] = true
plain (c ∷ cs) = not (c == 44) && plain cs

-- a line of three fields, with separators between them, that are a word and two numbers of a call
pub record Says (line : List ℕ) (k : Call) : Type 0 where
  pub word : List ℕ
  pub first : List ℕ
  pub second : List ℕ
  pub name : Word
  pub a : ℕ
  pub b : ℕ
  pub fields : line ≡ word ++ (44 ∷ (first ++ (44 ∷ second)))
  pub unmixed : plain word ≡ true
  pub named : word_of word ≡ Some name
  pub reads_a : number_of first ≡ Some a
  pub reads_b : number_of second ≡ Some b
  pub makes : call_of name a b ≡ Some k

-- a line of a word and two numbers, without its end
abbrev pub written : List ℕ → ℕ → ℕ → List ℕ
written word a b = word ++ (44 ∷ (decimal a ++ (44 ∷ decimal b)))

-- the line that writes a call, with no zeros in front of its numbers
abbrev pub shown : Call → List ℕ
shown (c.Open n p) = written (codes "open") n p
shown (c.Propose i v) = written (codes "propose") i v
shown c.Start = written (codes "start") 0 0
shown (c.Deliver k) = written (codes "deliver") k 0
shown (c.Consult i) = written (codes "consult") i 0
shown (c.Crash i) = written (codes "crash") i 0
shown c.Pass = written (codes "pass") 0 0

-- the numbers of a call have at most 64 bits
abbrev pub Small : Call → Type 0
Small (c.Open n p) = (n < 2 ^ 64) × (p < 2 ^ 64)
Small (c.Propose i v) = (i < 2 ^ 64) × (v < 2 ^ 64)
Small c.Start = Unit {0}
Small (c.Deliver k) = k < 2 ^ 64
Small (c.Consult i) = i < 2 ^ 64
Small (c.Crash i) = i < 2 ^ 64
Small c.Pass = Unit {0}

-- a line reads as a call exactly when it says it
pub record ExactReading : Type 0 where
  pub sound : (line : List ℕ) (k : Call) → reading line ≡ Some k → Says line k
  pub complete : (line : List ℕ) (k : Call) → Says line k → reading line ≡ Some k
  -- a number's decimal digits read as the number
  pub numbers : (n : ℕ) → n < 2 ^ 64 → number_of (decimal n) ≡ Some n
  -- what is written of a call reads as the call
  pub back : (k : Call) → Small k → reading (shown k) ≡ Some k
