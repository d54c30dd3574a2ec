-- `net` meets its contract: the number that is opened is the place that is read.
use Rattle.run.proofs.net.Goals as goal

pub returns : goal.returns
returns c = rw c.number.ensures
