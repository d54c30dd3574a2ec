-- Only the code is mapped.
use Rattle.rules.proofs.Meanings.{trapped_means}
use Rattle.rules.proofs.trapped.Goals as goal

pub returns : goal.returns
returns c = λ p m. trapped_means c.args.a p c.caught.result c.caught.ensures m
