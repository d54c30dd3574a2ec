-- By the question's word.
use mathlib.Core.Path.{sym, ◌∙◌}
use Rattle.answers.proofs.Saying.{said, said_bad}
use Rattle.answers.specs.Questions.{about_reaction}
use Rattle.answers.specs.Answering.{reacts, file_reacts}
use Rattle.answers.proofs.questions.answer_reaction.Goals as goal

pub returns-then-eq : goal.returns-then-eq
unfolding about_reaction
returns-then-eq c =
    let one = sym c.eq.ensures ∙ c.if-eq.true in
    rw one (said (reacts c.react.ensures) c.reaction.ensures)

pub returns-then-eq-2 : goal.returns-then-eq-2
unfolding about_reaction
returns-then-eq-2 c =
    let one = sym c.eq.ensures ∙ c.if-eq.false in
    let two = sym c.eq-2.ensures ∙ c.if-eq-2.true in
    rw (one, two) (said (file_reacts c.react_file.ensures) c.reaction-then-eq-2.ensures)

pub returns : goal.returns
unfolding about_reaction
returns c =
    let one = sym c.eq.ensures ∙ c.if-eq.false in
    let two = sym c.eq-2.ensures ∙ c.if-eq-2.false in
    rw (one, two) (said_bad c.bad_line.ensures)
