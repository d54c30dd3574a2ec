-- The texts stand one behind the other.
use borrow.Author.Rules.{rules}
use Rattle.texts.proofs.Putting.{writes_then}
use Rattle.tracing.specs.Texts.{word_line}
use Rattle.tracing.proofs.text.word_line.Goals as goal

pub returns : goal.returns
unfolding word_line
returns c = writes_then c.bytes.ensures (writes_then c.row.ensures (λ _. c.byte.ensures)) (search rules)
