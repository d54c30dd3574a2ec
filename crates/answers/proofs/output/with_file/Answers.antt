-- The texts stand one behind the other.
use borrow.Author.Rules.{rules}
use Rattle.texts.proofs.Putting.{writes_then}
use Rattle.answers.specs.Texts.{file_text}
use Rattle.answers.proofs.output.with_file.Goals as goal

pub returns : goal.returns
unfolding file_text
returns c = writes_then c.verdict.ensures (writes_then c.byte.ensures (writes_then c.hex_bytes.ensures (λ _. c.byte-2.ensures))) (search rules)
