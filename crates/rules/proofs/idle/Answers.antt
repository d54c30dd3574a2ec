-- Empty sets of bits mean empty sets.
use Rattle.rules.proofs.Meanings.{idle_means}
use Rattle.rules.proofs.idle.Goals as goal

pub returns : goal.returns
returns c = idle_means c.empty.ensures c.empty-2.ensures
