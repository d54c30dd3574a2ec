-- The texts stand one behind the other.
use borrow.Author.Rules.{rules}
use Rattle.texts.proofs.Putting.{writes_then}
use Rattle.answers.specs.Texts.{parts}
use Rattle.answers.proofs.ordering.put_part.Goals as goal

pub returns : goal.returns
unfolding parts
returns c = rw c.from.ensures at (writes_then c.decimal.ensures (λ _. c.byte.ensures) (search rules))
