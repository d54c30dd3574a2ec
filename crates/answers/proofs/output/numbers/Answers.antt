-- The texts stand one behind the other.
use borrow.Author.Rules.{rules}
use Rattle.texts.proofs.Putting.{writes_then}
use Rattle.answers.specs.Texts.{line}
use Rattle.answers.proofs.output.numbers.Goals as goal

pub returns : goal.returns
unfolding line
returns c = writes_then c.row.ensures (λ _. c.byte.ensures) (search rules)
