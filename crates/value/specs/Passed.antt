-- A test that passed, and the result that it let through.
use Rattle.std.specs.Prelude.{◌≡◌, Bool, true, false, cond, Ok, Err, Result, refl}

module _ {X E : Type 0} where
  -- a test that has to be true
  pub passed : (t : Bool) (r : Result X E) (e : E) (x : X) → cond t r (Err e) ≡ Ok x → (t ≡ true) × (r ≡ Ok x)
  passed true r e x h = (refl, h)
  passed false r e x h = cc

  -- a test that has to be false
  pub spared : (t : Bool) (r : Result X E) (e : E) (x : X) → cond t (Err e) r ≡ Ok x → (t ≡ false) × (r ≡ Ok x)
  spared true r e x h = cc
  spared false r e x h = (refl, h)
