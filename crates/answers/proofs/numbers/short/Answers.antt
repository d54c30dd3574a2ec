-- A number of 16 bits, or none.
use borrow.Author.Tests.{le-leb, lt-leb}
use Rattle.answers.specs.Tables.{short}
use Rattle.answers.proofs.numbers.short.Goals as goal

pub returns-in_err-n : goal.returns-in_err-n
unfolding short
returns-in_err-n c = rw c.in_err-n.was c.from_residual.ensures

pub returns-then-n-gt65535 : goal.returns-then-n-gt65535
unfolding short
returns-then-n-gt65535 c = rw (c.in_ok-n.was, lt-leb _ 65535 c.if-n-gt65535.true)

pub returns : goal.returns
unfolding short
returns c = rw (c.in_ok-n.was, le-leb _ 65535 c.if-n-gt65535.false)
