-- `with_bit` meets its contract: k is added where it is on.
use mathlib.Core.Bool.{and-true, and-false, or-false}
use Rattle.run.proofs.with_bit.Goals as goal

pub returns-then-on : goal.returns-then-on
returns-then-on c j = rw (c.if-on.true, and-true) (c.add.ensures j)

pub returns-else-on : goal.returns-else-on
returns-else-on c j = simp (c.if-on.false, and-false, or-false)
