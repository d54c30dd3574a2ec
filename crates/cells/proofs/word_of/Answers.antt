-- `word_of` meets its contract: each kind has its own arm.
use native.Mathlib.Omega.{arith}
use Rattle.cells.proofs.word_of.Goals as goal

pub returns-in-Input : goal.returns-in-Input
returns-in-Input c = rw c.in-Input.is (omega (arith, c.number.ensures))

pub returns-in-Gate : goal.returns-in-Gate
returns-in-Gate c = rw c.in-Gate.is c.packed.ensures

pub returns-in-Register : goal.returns-in-Register
returns-in-Register c = rw c.in-Register.is (omega (arith, c.number-in-Register.ensures))
