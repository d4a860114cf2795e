-- How large a run may be.
use Rattle.std.specs.Prelude.{ℕ, ◌≤◌}

-- n stations and so many places
pub record Sized (n places : ℕ) : Type 0 where
  pub few : 3 ≤ n
  pub many : n ≤ 32
  pub enough : n ≤ places
  pub bounded : places ≤ 4096
