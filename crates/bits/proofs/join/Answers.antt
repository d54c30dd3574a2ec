-- `join` meets its contract: the law of `bit_or`.
use Rattle.bits.proofs.Laws.{has_join}
use Rattle.bits.proofs.join.Goals as goal

pub returns : goal.returns
returns c = has_join c.args.a c.args.b
