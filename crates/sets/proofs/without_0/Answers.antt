-- `without_0` meets its contract: the law of its difference.
use Rattle.sets.proofs.Words.{has_less0}
use Rattle.sets.proofs.without_0.Goals as goal

pub returns : goal.returns
returns c = has_less0 c.args.a
