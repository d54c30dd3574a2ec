-- One more than the number that `number` answers.
use Rattle.sheet.proofs.first_part.Goals as goal

pub returns : goal.returns
returns c = rw (c.new.ensures, c.number.ensures)
