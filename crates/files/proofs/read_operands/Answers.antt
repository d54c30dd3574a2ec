-- Each arm is the case of `operands_at` with its kind, and the last one is what is left: 3 to 5.
use Rattle.files.proofs.Standing.{gate_operands}
use Rattle.files.specs.Read.{operands_at}
use native.Mathlib.Omega.{arith}
use mathlib.Core.Path.{sym, ◌∙◌}
use Rattle.number.specs.Number.{pick}
use Rattle.files.proofs.read_operands.Goals as goal

pub returns-in-0 : goal.returns-in-0
unfolding operands_at pick
returns-in-0 c = simp c.in-0.is

pub returns-in-1 : goal.returns-in-1
unfolding operands_at pick
returns-in-1 c = simp c.in-1.is

pub returns-in-2 : goal.returns-in-2
unfolding operands_at pick
returns-in-2 c = c.read_input.ensures ∙ simp c.in-2.is

pub returns-in-6 : goal.returns-in-6
unfolding operands_at pick
returns-in-6 c = c.read_register.ensures ∙ simp c.in-6.is

pub returns-in-7 : goal.returns-in-7
unfolding operands_at pick
returns-in-7 c = c.read_table.ensures ∙ simp c.in-7.is

pub returns-in_default : goal.returns-in_default
returns-in_default c =
    let gate = rw c.gate_in.ensures at c.read_gate.ensures in
    gate ∙ sym (gate_operands _ _ _ _ c.args.k (omega arith) (omega arith) (omega arith) (omega arith) (omega arith))
