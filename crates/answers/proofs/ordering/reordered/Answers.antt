-- The texts stand one behind the other.
use borrow.Author.Rules.{rules}
use Rattle.texts.proofs.Putting.{writes_then}
use Rattle.answers.specs.Texts.{order_text}
use Rattle.answers.proofs.ordering.reordered.Goals as goal

pub returns : goal.returns
unfolding order_text
returns c = rw c.from.ensures at (writes_then c.row.ensures (writes_then c.byte.ensures (writes_then c.put_table.ensures (λ _. c.byte-2.ensures))) (search rules))
