-- The texts stand one behind the other.
use borrow.Author.Rules.{rules}
use Rattle.texts.proofs.Putting.{writes_then}
use Rattle.answers.specs.Texts.{reaction_text}
use Rattle.answers.proofs.output.reaction.Goals as goal

pub returns : goal.returns
unfolding reaction_text
returns c = writes_then c.verdict.ensures (writes_then c.byte.ensures (writes_then c.set.ensures (writes_then c.byte-2.ensures (writes_then c.set-2.ensures (λ _. c.byte-3.ensures))))) (search rules)
