-- Each arm is the case of the definition.
use Prim.Native.Nat.{ℕ, ◌+◌}
use mathlib.Core.Path.{sym, ap, ◌∙◌}
use native.Mathlib.Omega.{arith}
use Rattle.number.specs.Counts.{of_cell}
use Rattle.number.proofs.Laws.{length_at_most}
use Rattle.netlists.proofs.Laying.{gate_length}
use Rattle.netlists.proofs.writer.operand_length.Goals as goal

pub overflow_add-result : goal.overflow_add-result
overflow_add-result c =
    omega (arith, c.pair_length.ensures, length_at_most (of_cell c.in-Gate.x), length_at_most (of_cell c.in-Gate.y))

pub returns-in-Input : goal.returns-in-Input
returns-in-Input c = rw c.in-Input.is (rw c.number.ensures at c.number_length.ensures)

pub returns-in-Gate : goal.returns-in-Gate
returns-in-Gate c =
    rw c.in-Gate.is (ap (λ (k : ℕ). 1 + k) c.pair_length.ensures ∙ sym (gate_length _ c.in-Gate.x c.in-Gate.y))

pub returns-in-Register : goal.returns-in-Register
returns-in-Register c = rw c.in-Register.is (rw c.number-in-Register.ensures at c.number_length-in-Register.ensures)
