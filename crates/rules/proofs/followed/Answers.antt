-- The joined set holds both runs' emissions.
use Rattle.rules.proofs.Meanings.{followed_means}
use Rattle.rules.proofs.followed.Goals as goal

pub returns : goal.returns
returns c =
    λ p q ma mb. followed_means c.args.a c.args.b p q ma mb c.join.result c.join.ensures c.requires
