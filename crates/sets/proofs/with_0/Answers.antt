-- `with_0` meets its contract: the law of its sum.
use Rattle.sets.proofs.Words.{has_with0}
use Rattle.sets.proofs.with_0.Goals as goal

pub returns : goal.returns
returns c = has_with0 c.args.a
