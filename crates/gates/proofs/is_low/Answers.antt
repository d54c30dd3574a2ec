-- `is_low` meets its contract: the number that is tested is the net's own.
use Prim.Native.Nat.{ℕ}
use mathlib.Core.Path.{ap}
use lib.Dec.{eqb}
use Rattle.gates.proofs.is_low.Goals as goal

pub returns : goal.returns
returns c = ap (λ (k : ℕ). eqb k 0) c.number.ensures
