-- Facts about tests that several laws use.
use mathlib.Core.Path.{◌≡◌}
use mathlib.Core.Bool.{Bool, false, not, ◌&&◌, ◌||◌}
use Rattle.number.proofs.Bools.{taut}

-- a ⊆ b is stated as (a && not b) ≡ false
pub all_in : (a : Bool) → (a && not a) ≡ false
all_in = taut 1 0 _ _ _ tt

pub more_in : (m a b : Bool) → (a && not b) ≡ false → ((m || a) && not (m || b)) ≡ false
more_in = taut 3 1 _ _ _ tt
