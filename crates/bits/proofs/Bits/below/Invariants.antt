use Prim.Native.Nat.{ℕ, ◌*◌, ◌-◌, ◌<◌}
use mathlib.Core.Path.{◌≡◌}
use lib.Dec.{ltb}
use Rattle.bits.specs.Bits.{has}
use Rattle.bits.proofs.Making.{Made}
use Rattle.bits.proofs.Bits.below.Given as goal

abbrev pub invariant-loop-i : goal.invariant-loop-i
invariant-loop-i l = Made (λ p w. (k : ℕ) → k < 64 → has w k ≡ ltb k (l.n - 64 * p)) l.word-items l.i
