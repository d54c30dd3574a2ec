-- By the question's word.
use mathlib.Core.Path.{sym, ◌∙◌}
use Rattle.answers.proofs.Saying.{said, said_bad}
use Rattle.answers.specs.Questions.{about_bytes}
use Rattle.answers.specs.Answering.{is_read, is_checked, is_file}
use Rattle.answers.proofs.questions.answer_bytes.Goals as goal

pub returns-then-eq : goal.returns-then-eq
unfolding about_bytes
returns-then-eq c =
    let one = sym c.eq.ensures ∙ c.if-eq.true in
    rw one (said is_read (rw c.read.ensures at c.reading.ensures))

pub returns-then-eq-2 : goal.returns-then-eq-2
unfolding about_bytes
returns-then-eq-2 c =
    let one = sym c.eq.ensures ∙ c.if-eq.false in
    let two = sym c.eq-2.ensures ∙ c.if-eq-2.true in
    rw (one, two) (said (is_checked c.check.ensures) c.answer.ensures)

pub returns-then-eq-3 : goal.returns-then-eq-3
unfolding about_bytes
returns-then-eq-3 c =
    let one = sym c.eq.ensures ∙ c.if-eq.false in
    let two = sym c.eq-2.ensures ∙ c.if-eq-2.false in
    let three = sym c.eq-3.ensures ∙ c.if-eq-3.true in
    rw (one, two, three) (said (is_file c.check_file.ensures) c.answer-then-eq-3.ensures)

pub returns : goal.returns
unfolding about_bytes
returns c =
    let one = sym c.eq.ensures ∙ c.if-eq.false in
    let two = sym c.eq-2.ensures ∙ c.if-eq-2.false in
    let three = sym c.eq-3.ensures ∙ c.if-eq-3.false in
    rw (one, two, three) (said_bad c.bad_line.ensures)
