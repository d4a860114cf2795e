-- The byte table of a session.
use Rattle.std.specs.Prelude.{◌≡◌, ℕ, List, length, slice_index}

-- n bytes with nothing in them
pub record Blank (n : ℕ) (bytes : List ℕ) : Type 0 where
  pub long : length bytes ≡ n
  pub empty : (i : ℕ) → slice_index bytes i ≡ 0
