use Prim.Native.Nat.{ℕ, ◌-◌}
use Rattle.bits.specs.Bits.{whole}
use Rattle.interpreter.specs.Settle.{Settling}
use Rattle.interpreter.proofs.Settled.{Given, Reached}
use Rattle.interpreter.proofs.agreed.Given as goal

abbrev pub invariant-loop-round : goal.invariant-loop-round
invariant-loop-round l =
    (event : ℕ) → Given event (whole l.given) → (p : Settling l.rows (whole l.state) event) → Reached p (whole l.e) (l._round - 1)
