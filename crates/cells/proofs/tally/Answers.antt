-- `tally` meets its contract: each kind has its own arm.
use native.Mathlib.Omega.{arith}
use Rattle.cells.proofs.tally.Goals as goal

pub returns-in-Register : goal.returns-in-Register
returns-in-Register c = rw c.in-Register.is (omega arith)
