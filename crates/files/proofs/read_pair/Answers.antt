-- What the first operand is, then what the second is.
use Rattle.files.specs.Read.{pair_of, with_second}
use Rattle.files.proofs.Judging.{handed_on}
use Rattle.files.proofs.read_pair.Goals as goal

pub returns-in_err-x : goal.returns-in_err-x
unfolding pair_of
returns-in_err-x c = rw (handed_on c.from_residual.ensures.1, ← c.in_err-x.ensures)

pub returns-in_err-y : goal.returns-in_err-y
unfolding pair_of with_second
returns-in_err-y c = rw (handed_on c.from_residual-in_err-y.ensures.1, ← c.in_ok-x.ensures, ← c.in_err-y.ensures)

pub returns : goal.returns
unfolding pair_of with_second
returns c = rw (← c.in_ok-x.ensures, ← c.in_ok-y.ensures)
