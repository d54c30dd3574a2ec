-- The halts stand at their bits already.
use Rattle.rules.proofs.Meanings.{next_means}
use Rattle.rules.proofs.next_state.Goals as goal

pub returns : goal.returns
returns c = next_means c.args.r c.add.result c.add.ensures
