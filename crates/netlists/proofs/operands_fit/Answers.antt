-- Each arm is the case of the definition.
use native.Mathlib.Numerals.{add-one}
use mathlib.Core.Logic.{inl, inr}
use mathlib.Core.Path.{sym, ◌∙◌}
use Rattle.cells.specs.Netlist.{operands_fit}
use Rattle.netlists.proofs.operands_fit.Goals as goal

pub returns-in-Low : goal.returns-in-Low
unfolding operands_fit
returns-in-Low c = elim c.in-Low.is [ inl low ↦ simp low | inr high ↦ simp high ]

pub returns-in-Input : goal.returns-in-Input
unfolding operands_fit
returns-in-Input c = simp (c.in-Input.is, c.number.ensures, c.number-in-Input.ensures, add-one)

pub returns-then-is_net : goal.returns-then-is_net
unfolding operands_fit
returns-then-is_net c = c.is_net-then-is_net.ensures ∙ simp (c.in-Gate.is, sym c.if-is_net.ensures)

pub returns-else-is_net : goal.returns-else-is_net
unfolding operands_fit
returns-else-is_net c = c.if-is_net.false ∙ simp (c.in-Gate.is, sym c.if-is_net.ensures)

pub returns-in-Register : goal.returns-in-Register
unfolding operands_fit
returns-in-Register c = simp (c.in-Register.is, c.is_net-in-Register.ensures)
