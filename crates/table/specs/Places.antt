-- A table of bytes, cut into places of one size.
use Rattle.std.specs.Prelude.{ℕ, zero, suc, ◌*◌, List, [], ◌++◌, take, drop, replicate}
use Rattle.message.specs.Format as message

-- the table with `ys` written from `at` on
abbrev pub put : List ℕ → ℕ → List ℕ → List ℕ
put xs at ys = message.put at ys xs

-- `size` bytes from `at` on
abbrev pub place : List ℕ → ℕ → ℕ → List ℕ
place xs at size = take size (drop at xs)

-- one message for each receiver below n
abbrev pub messages : (ℕ → List ℕ) → ℕ → List ℕ
messages f zero = []
messages f (suc n) = messages f n ++ f n

-- the message at place k is taken out: the last of the waiting ones comes there, and its place is cleared
abbrev pub taken_out : List ℕ → ℕ → ℕ → ℕ → List ℕ
taken_out xs size k last = put (put xs (k * size) (place xs (last * size) size)) (last * size) (replicate size 0)
