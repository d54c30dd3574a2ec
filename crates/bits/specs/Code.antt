-- Not to be believed: what the code keeps to; the proofs check it.
-- What the comparison of two sets at what is in a third answers.
use Rattle.std.specs.Prelude.{◌≡◌, Bool, true, false, ℕ, ◌<◌}
use Rattle.bits.specs.Bits.{has}

-- whether a and b, which have nothing from n on, are the same at what is in w
pub record SameAt (n w a b : ℕ) (r : Bool) : Type 0 where
  pub same : r ≡ true → (j : ℕ) → (j < n → has w j ≡ true) → has a j ≡ has b j
  pub differ : r ≡ false → a ≡ b → ⊥
