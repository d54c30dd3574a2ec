-- The texts stand one behind the other.
use borrow.Author.Rules.{rules}
use Rattle.texts.proofs.Putting.{writes_then}
use Rattle.tracing.specs.Texts.{instant_text}
use Rattle.tracing.proofs.text.instant_line.Goals as goal

pub returns : goal.returns
unfolding instant_text
returns c =
    let state = writes_then c.byte-2.ensures (writes_then c.set-2.ensures (λ _. c.rest_mark.ensures)) in
    writes_then c.decimal.ensures (writes_then c.byte.ensures (writes_then c.set.ensures state)) (search rules)
