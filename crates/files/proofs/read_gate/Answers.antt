-- The operands are cells, or the first that is none is refused.
use Rattle.files.specs.Read.{gate_of}
use Rattle.files.proofs.Judging.{handed_on}
use Rattle.files.proofs.read_gate.Goals as goal

pub returns-in_err-x : goal.returns-in_err-x
unfolding gate_of
returns-in_err-x c = rw (handed_on c.from_residual.ensures.1, ← c.in_err-x.ensures)

pub returns : goal.returns
unfolding gate_of
returns c = rw (← c.in_ok-x.ensures)
