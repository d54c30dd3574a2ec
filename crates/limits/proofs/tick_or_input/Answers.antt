-- The test is on the number that `number` answers.
use Rattle.limits.proofs.tick_or_input.Goals as goal

pub returns : goal.returns
returns c = rw c.number.ensures
