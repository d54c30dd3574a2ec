-- `-`, no digit at all, or digits.
use mathlib.Core.Path.{sym, ◌∙◌}
use Rattle.answers.specs.Questions.{bytes_in}
use Rattle.answers.proofs.Blanks.{decoded}
use Rattle.answers.proofs.words.hex_bytes.Goals as goal

pub returns-then-eq-clause-decodes : goal.returns-then-eq-clause-decodes
unfolding bytes_in
returns-then-eq-clause-decodes c = rw (sym c.eq.ensures ∙ c.if-eq.true)

pub returns-then-is_empty-clause-decodes : goal.returns-then-is_empty-clause-decodes
unfolding bytes_in
returns-then-is_empty-clause-decodes c = rw (sym c.eq.ensures ∙ c.if-eq.false, sym c.is_empty.ensures ∙ c.if-is_empty.true)

pub returns-clause-decodes : goal.returns-clause-decodes
returns-clause-decodes c =
    decoded c.hex_bytes.result c.hex_bytes.ensures.unhexed c.requires (sym c.eq.ensures ∙ c.if-eq.false) (sym c.is_empty.ensures ∙ c.if-is_empty.false)
