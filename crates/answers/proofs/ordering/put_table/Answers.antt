-- The texts stand one behind the other.
use borrow.Author.Rules.{rules}
use Rattle.texts.proofs.Putting.{writes_then}
use Rattle.answers.specs.Texts.{table_text}
use Rattle.answers.proofs.ordering.put_table.Goals as goal

pub returns : goal.returns
unfolding table_text
returns c = rw (c.number.ensures, c.from.ensures) at (writes_then c.put_part.ensures (writes_then c.put_pins.ensures (λ _. c.hex.ensures)) (search rules))
