-- The signal that was read, or its fault.
use Rattle.sheet.specs.Read.{naming}
use Rattle.sheet.proofs.Reading.{handed_on}
use Rattle.sheet.proofs.present_head.Goals as goal

pub returns-in_err-x : goal.returns-in_err-x
unfolding naming
returns-in_err-x c = rw (handed_on c.from_residual.ensures.1, ← c.in_err-x.ensures)

pub returns : goal.returns
unfolding naming
returns c = rw (← c.in_ok-x.ensures)
