-- What the cell asks for, by its kind: the nets that it needs are cells.
use mathlib.Core.Path.{refl, ◌∙◌}
use mathlib.Core.Logic.{inl, inr}
use Rattle.run.proofs.value_of.Goals as goal

pub net-requires : goal.net-requires
net-requires c =
    c.requires c.in-Gate.x (rw c.in-Gate.is (inl refl))

pub net-requires-in-Gate : goal.net-requires-in-Gate
net-requires-in-Gate c =
    c.requires c.in-Gate.y (rw c.in-Gate.is (inr refl))

pub returns-in-Input : goal.returns-in-Input
returns-in-Input c = rw c.in-Input.is (c.member.ensures ∙ rw c.signal_bit.ensures refl)

pub returns-in-Gate : goal.returns-in-Gate
returns-in-Gate c =
    rw c.in-Gate.is (c.gate_value.ensures ∙ rw (c.net.ensures, c.net-in-Gate.ensures) refl)

pub returns-in-Register : goal.returns-in-Register
returns-in-Register c = rw c.in-Register.is c.member-in-Register.ensures
