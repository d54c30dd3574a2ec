-- By the question's word.
use mathlib.Core.Path.{sym, ◌∙◌}
use Rattle.answers.specs.Questions.{asked}
use Rattle.answers.proofs.questions.answer_question.Goals as goal

pub returns-then-eq : goal.returns-then-eq
unfolding asked
returns-then-eq c =
    let one = sym c.eq.ensures ∙ c.if-eq.true in
    rw one c.answer_rest.ensures

pub returns-then-eq-2 : goal.returns-then-eq-2
unfolding asked
returns-then-eq-2 c =
    let one = sym c.eq.ensures ∙ c.if-eq.false in
    let two = sym c.eq-2.ensures ∙ c.if-eq-2.true in
    rw (one, two) c.answer.ensures

pub returns : goal.returns
unfolding asked
returns c =
    let one = sym c.eq.ensures ∙ c.if-eq.false in
    let two = sym c.eq-2.ensures ∙ c.if-eq-2.false in
    rw (one, two) c.answer_about.ensures
