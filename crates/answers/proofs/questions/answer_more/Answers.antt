-- By the question's word.
use mathlib.Core.Path.{sym, ◌∙◌}
use Rattle.answers.proofs.Saying.{said_bad}
use Rattle.answers.specs.Questions.{about_more}
use Rattle.answers.proofs.questions.answer_more.Goals as goal

pub returns-then-eq : goal.returns-then-eq
unfolding about_more
returns-then-eq c =
    let one = sym c.eq.ensures ∙ c.if-eq.true in
    rw one c.answer_fits.ensures

pub returns-then-eq-2 : goal.returns-then-eq-2
unfolding about_more
returns-then-eq-2 c =
    let one = sym c.eq.ensures ∙ c.if-eq.false in
    let two = sym c.eq-2.ensures ∙ c.if-eq-2.true in
    rw (one, two) c.answer_write.ensures

pub returns-then-eq-3 : goal.returns-then-eq-3
unfolding about_more
returns-then-eq-3 c =
    let one = sym c.eq.ensures ∙ c.if-eq.false in
    let two = sym c.eq-2.ensures ∙ c.if-eq-2.false in
    let three = sym c.eq-3.ensures ∙ c.if-eq-3.true in
    rw (one, two, three) c.answer_cover.ensures

pub returns : goal.returns
unfolding about_more
returns c =
    let one = sym c.eq.ensures ∙ c.if-eq.false in
    let two = sym c.eq-2.ensures ∙ c.if-eq-2.false in
    let three = sym c.eq-3.ensures ∙ c.if-eq-3.false in
    rw (one, two, three) (said_bad c.bad_line.ensures)
