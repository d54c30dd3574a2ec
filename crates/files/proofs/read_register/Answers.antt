-- The operand is a cell, or refused.
use Rattle.files.specs.Read.{register_of}
use Rattle.files.proofs.Judging.{handed_on}
use Rattle.files.proofs.read_register.Goals as goal

pub returns-in_err-x : goal.returns-in_err-x
unfolding register_of
returns-in_err-x c = rw (handed_on c.from_residual.ensures.1, ← c.in_err-x.ensures)

pub returns : goal.returns
unfolding register_of
returns c = rw (← c.in_ok-x.ensures)
