-- The texts stand one behind the other.
use borrow.Author.Rules.{rules}
use Rattle.texts.proofs.Putting.{writes_then}
use Rattle.answers.specs.Texts.{no_file_text}
use Rattle.answers.proofs.output.without_file.Goals as goal

pub returns : goal.returns
unfolding no_file_text
returns c = writes_then c.verdict.ensures (λ _. c.bytes.ensures) (search rules)
