-- The test is on the number that `number` answers.
use Rattle.limits.proofs.halts_full.Goals as goal

pub returns : goal.returns
returns c = rw c.number.ensures
